-- Laws of a call that is accepted, and of the rights of the user who asks. Assumes nothing.
use mathlib.Core.Path.{◌≡◌, refl, sym, ap, ◌∙◌}
use mathlib.Core.Bool.{Bool, true, false}
use mathlib.Core.List.{List}
use Prim.Native.Nat.{ℕ, ◌+◌, ◌*◌, ◌≤◌, ◌<◌}
use native.Mathlib.Omega.{arith}
use lib.Dec.{leb}
use lib.ListN.{length, get_or, get_or-eq_default, length-take}
use borrow.Author.Tests.{eqb-true, leb-true, leb-false, ltb-true, not-false}
use Rattle.octets.specs.Bits.{bit_of}
use Rattle.octets.proofs.Choice.{true_false, both_left, both_right}
use Rattle.refusal.proofs.Order.{refuse_accepted, then_accepted}
use Rattle.records.specs.Settings.{llid_of}
use Rattle.rights.specs.declared.settings.Caller.{Caller}
use Rattle.rights.specs.Settings.{set_of, set_for, own_rights}
use Rattle.rights.specs.Rights.{may_load}
use Rattle.rights.specs.Verdict.{user_fits, counts_fit, values_fit, llids_differ, class_verdict}
use Rattle.rights.specs.Loading.{load_verdict, loading_after, loading}
use Rattle.rights.specs.Claims.{LoadsOne}
use Rattle.rights.proofs.Sets.{set_found}
use Rattle.rights.proofs.Loads.{key_loaded-holds}
use Rattle.refusal.specs.Verdict.{no_refusal}

-- what acceptance tells
pub record Valid (c : Caller) (s q : List ℕ) : Type 0 where
  pub user : user_fits c ≡ true
  pub first : 1 ≤ c.user
  pub last : c.user ≤ c.users
  pub lengths : counts_fit c (length s) (length q) ≡ true
  pub few : c.sets ≤ 16
  pub sets : length s ≡ 41 * c.sets
  pub rights : length q ≡ c.sets * c.users
  pub values : values_fit c s q ≡ true
  pub llids : llids_differ c s ≡ true

counted : (c : Caller) (m n : ℕ) → counts_fit c m n ≡ true → (c.sets ≤ 16) × (m ≡ 41 * c.sets) × (n ≡ c.sets * c.users)
unfolding counts_fit
counted c m n e =
    let p = both_right _ _ (both_right _ _ e) in
    (leb-true _ _ (both_right _ _ (both_left _ _ e)), eqb-true _ _ (both_left _ _ p), eqb-true _ _ (both_right _ _ p))

asked : (c : Caller) → user_fits c ≡ true → (1 ≤ c.user) × (c.user ≤ c.users)
unfolding user_fits
asked c e = (leb-true _ _ (both_left _ _ e), leb-true _ _ (both_right _ _ e))

pub valid : (suits fits : Bool) (c : Caller) (s q : List ℕ) → class_verdict suits fits c s q ≡ no_refusal
    → (suits ≡ true) × (fits ≡ true) × Valid c s q
unfolding class_verdict
valid suits fits c s q e =
    let a = refuse_accepted _ _ _ e in
    let b = refuse_accepted _ _ _ a.1 in
    let d = refuse_accepted _ _ _ b.1 in
    let f = refuse_accepted _ _ _ d.1 in
    let user = not-false _ a.0 in
    let lengths = not-false _ b.0 in
    let values = not-false _ d.0 in
    let n = counted c (length s) (length q) (both_right _ _ lengths) in (
      both_left _ _ lengths,
      both_left _ _ values,
      record {
        user = user;
        first = (asked c user).0;
        last = (asked c user).1;
        lengths = both_right _ _ lengths;
        few = n.0;
        sets = n.1;
        rights = n.2;
        values = both_right _ _ values;
        llids = not-false _ f.0;
      },
    )

own_few : (c : Caller) (q : List ℕ) → length (own_rights c q) ≤ c.sets
unfolding own_rights
own_few c q = simp length-take (omega arith)

inside_by : (t : Bool) (P : ℕ → Bool) (c : Caller) (q : List ℕ) (j : ℕ) → P 0 ≡ false → leb c.sets j ≡ t
    → P (get_or (own_rights c q) j 0) ≡ true → j < c.sets
inside_by true P c q j z d e =
    let none = get_or-eq_default (own_rights c q) 0 {n = j} (omega (arith, own_few c q, leb-true c.sets j d)) in
    true_false (sym e ∙ ap P none ∙ z)
inside_by false P c q j z d e = leb-false _ _ d

-- a right that an octet of 0 does not give is one on a set of the settings
pub inside : (P : ℕ → Bool) (c : Caller) (q : List ℕ) (j : ℕ) → P 0 ≡ false → P (get_or (own_rights c q) j 0) ≡ true → j < c.sets
inside P c q j z e = inside_by (leb c.sets j) P c q j z refl e

load_none : may_load 0 ≡ false
unfolding may_load bit_of
load_none = refl

-- a key that may be loaded has its place in the sets, in the set of its LLID
pub record Loads (c : Caller) (s q : List ℕ) (llid i : ℕ) : Type 0 where
  pub key : i < 2
  pub place : 41 * set_for c s llid + 41 ≤ length s
  pub set : llid_of (set_of s (set_for c s llid)) ≡ llid

pub loads : (c : Caller) (s q : List ℕ) (llid i : ℕ) → load_verdict c s q llid i ≡ no_refusal → Loads c s q llid i
unfolding load_verdict
loads c s q llid i e =
    let a = then_accepted _ _ e in
    let v = valid _ _ c s q a.0 in
    let may = not-false _ (refuse_accepted _ _ _ a.1).0 in
    let j = inside may_load c q (set_for c s llid) load_none may in
    record { key = ltb-true _ _ v.1; place = omega (arith, j, v.2.sets); set = set_found s llid 0 c.sets (omega (arith, j)) }

-- what an accepted call leaves of the sets
pub loads_one : (c : Caller) (s q : List ℕ) (llid i : ℕ) (key : List ℕ) → LoadsOne c s q llid i key
unfolding loading loading_after
loads_one c s q llid i key =
    record {
      set = λ e. (loads c s q llid i e).set;
      loaded = λ e n. let l = loads c s q llid i e in rw e (key_loaded-holds s key (set_for c s llid) i l.place l.key n);
    }
