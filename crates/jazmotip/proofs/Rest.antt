-- Where the groups move the advance is accepted, and where they do not they are those that were lent. Assumes nothing.
use Rattle.std.specs.Prelude.{Ok, Err}
use mathlib.Core.Path.{◌≡◌, refl, sym}
use mathlib.Core.Bool.{Bool, true, false, not, ◌&&◌}
use Prim.Native.Nat.{ℕ}
use lib.Dec.{eqb}
use borrow.Author.Tests.{eqb-true, not-false}
use Rattle.protocol.specs.Replies.{reply, silent}
use Rattle.group_protocol.specs.declared.HeadEnd.{HeadEnd}
use Rattle.headend.specs.HeadCalls.{head_advanced, head_advance_of, head_answer}
use Rattle.headend.proofs.Advancing.{head_order}
use Rattle.headend.proofs.NoGroups.{groups_rest}
use Rattle.refusal.specs.Verdict.{Verdict}

pub moves : (h : HeadEnd) (n : ℕ) → (eqb (head_advance_of h n).number 0 && not (eqb h.groups.count 0)) ≡ true → (head_advance_of h n).number ≡ 0
moves h n e = eqb-true _ _ (left _ _ e) where
  left : (a b : Bool) → (a && b) ≡ true → a ≡ true
  left true b t = refl
  left false b t = t

pub rest : (h : HeadEnd) (n : ℕ) → (eqb (head_advance_of h n).number 0 && not (eqb h.groups.count 0)) ≡ false
    → h.groups ≡ (head_advance_of h n).head.groups
unfolding head_advance_of head_answer head_advanced reply
rest h n = by_verdict-holds (head_order h n) where
  by_verdict-holds : (v : Verdict) → let r = head_answer (reply v h silent (head_advanced h n) silent) in
      (eqb r.number 0 && not (eqb h.groups.count 0)) ≡ false → h.groups ≡ r.head.groups
  by_verdict-holds (Ok tt) e = sym (groups_rest h.groups n (eqb-true _ _ (not-false _ e)))
  by_verdict-holds (Err x) e = refl
