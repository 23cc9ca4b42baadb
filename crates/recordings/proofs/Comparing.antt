-- Laws of two blocks that are accepted: what `Compared` says of them. Assumes nothing.
use Rattle.std.specs.Prelude.{Result, Ok, Err}
use mathlib.Core.Path.{◌≡◌, refl, sym, ap, ◌∙◌}
use mathlib.Core.Bool.{true, false, not}
use mathlib.Core.List.{List, [], append-nil}
use Prim.Native.Nat.{ℕ, zero, suc, ◌+◌, ◌≤◌, ◌<◌}
use native.Mathlib.Nat.{add_comm}
use native.Mathlib.Omega.{arith}
use lib.Dec.{eqb}
use borrow.Author.Tests.{not-false, eqb-true, ne_eqb}
use Rattle.octets.specs.Choice.{pick}
use Rattle.octets.specs.Lists.{tabulate, sum}
use Rattle.octets.proofs.Choice.{both_false_left, not_of_true, pick_true, pick_false}
use Rattle.octets.proofs.Lists.{tabulate_ext}
use Rattle.refusal.proofs.Order.{refused_accepts, refuse_accepted, refuse_passed, then_accepted}
use Rattle.records.specs.Block.{most_records, records_in, record_of}
use Rattle.directory.specs.Directory.{verdict_on, directory_of}
use Rattle.directory.specs.Rebuilt.{joined}
use Rattle.directory.proofs.Records.{good}
use Rattle.sameness.specs.Pairing.{partner_of, alone, distinct}
use Rattle.sameness.specs.Sameness.{same}
use Rattle.recordings.specs.Comparing.{output_octets, same_mark, different_mark, mark_at, mark_of, alone_entry, entries_of, alone_at, alone_of, total_of, block_verdict, repeat_verdict, ruled, ruling_on, Ruling, no_denial}
use Rattle.recordings.specs.Laws.{Pairs, Compared}
use Rattle.recordings.specs.Duties.{Comparable}
use Rattle.sameness.proofs.Pairing.{paired_self, paired_back, paired_through, only_one, partner_is, not_alone}
use Rattle.recordings.proofs.Before.{finer, total_before-holds}
use Rattle.sameness.proofs.Sameness.{same_self, same_either_way}
use Rattle.refusal.specs.Verdict.{Verdict, no_refusal}
use Rattle.refusal.specs.declared.Refusal.{Refusal}

---- what acceptance tells, and conversely

pub record Accepting (size : ℕ) (a b : List ℕ) : Type 0 where
  pub room : not (eqb size output_octets) ≡ false
  pub first : block_verdict a ≡ no_refusal
  pub second : block_verdict b ≡ no_refusal
  pub first_once : distinct a ≡ true
  pub second_once : distinct b ≡ true

ruled_taken : (block : ℕ) (v : Verdict) (rest : Ruling) → ruled block v rest ≡ no_denial → (v ≡ no_refusal) × (rest ≡ no_denial)
unfolding ruled
ruled_taken block (Ok tt) rest e = (refl, e)
ruled_taken block (Err r) rest e = let z : ◌≡◌ {A = ℕ} 0 1 = cc in absurd (omega arith)

ruled_on : (block : ℕ) (v : Verdict) (rest : Ruling) → v ≡ no_refusal → ruled block v rest ≡ rest
unfolding ruled
ruled_on block v rest e = rw e

no_repeat : (b : List ℕ) → repeat_verdict b ≡ no_refusal → distinct b ≡ true
unfolding repeat_verdict
no_repeat b e = not-false _ (refuse_accepted _ _ _ e).0

once : (b : List ℕ) → distinct b ≡ true → repeat_verdict b ≡ no_refusal
unfolding repeat_verdict
once b e = refuse_passed _ _ _ (not_of_true e)

pub accepting : (size : ℕ) (a b : List ℕ) → ruling_on size a b ≡ no_denial → Accepting size a b
unfolding ruling_on
accepting size a b e =
    let s = ruled_taken _ _ _ e in
    let f = ruled_taken _ _ _ s.1 in
    let g = ruled_taken _ _ _ f.1 in
    let h = ruled_taken _ _ _ g.1 in
    let k = ruled_taken _ _ _ h.1 in
    record {
      room = (refuse_accepted _ _ _ s.0).0;
      first = f.0;
      second = g.0;
      first_once = no_repeat a h.0;
      second_once = no_repeat b k.0;
    }

accepted_by : (size : ℕ) (a b : List ℕ) → Accepting size a b → ruling_on size a b ≡ no_denial
unfolding ruling_on
accepted_by size a b t =
    ruled_on _ _ _ (refuse_passed _ _ _ t.room) ∙ ruled_on _ _ _ t.first ∙ ruled_on _ _ _ t.second
    ∙ ruled_on _ _ _ (once a t.first_once) ∙ ruled_on _ _ _ (once b t.second_once)

---- entries

-- the entry of a record with a partner
pub mark_paired : (a b : List ℕ) (i j : ℕ) → partner_of (record_of a i) b ≡ j → j < records_in b
    → mark_of a b i ≡ pick (same (record_of a i) (record_of b j)) same_mark different_mark
unfolding mark_at
mark_paired a b i j e h = rw e (pick_false _ _ (ne_eqb j (records_in b) (λ q. omega arith)))

none_marked : (b a : List ℕ) (j m : ℕ) → ((k : ℕ) → j ≤ k → k < j + m → alone b a k ≡ false) → joined (alone_entry b a) j m ≡ []
unfolding joined
none_marked b a j zero f = refl
none_marked b a j (suc m) f =
    rw (pick_false _ _ (f j (omega arith) (omega arith))) (none_marked b a (suc j) m (λ k l h. f k (omega arith) (omega arith)))

none_counted : (llid : ℕ) (b a : List ℕ) (j m : ℕ) → ((k : ℕ) → j ≤ k → k < j + m → alone b a k ≡ false)
    → sum j m (alone_at llid b a) ≡ 0
none_counted llid b a j zero f = refl
none_counted llid b a j (suc m) f =
    rw (pick_false _ _ (both_false_left _ (f j (omega arith) (omega arith))), none_counted llid b a (suc j) m (λ k l h. f k (omega arith) (omega arith)))

---- the laws

module _ (size : ℕ) (a b : List ℕ) (t : Accepting size a b) where
  one_of_first-holds : (i k j : ℕ) → Pairs a b i j → Pairs a b k j → i ≡ k
  one_of_first-holds i k j p q = only_one a i k t.first_once p.first q.first (paired_through _ _ _ p.agree (paired_back _ _ q.agree))

  one_of_second-holds : (i j k : ℕ) → Pairs a b i j → Pairs a b i k → j ≡ k
  one_of_second-holds i j k p q = only_one b j k t.second_once p.second q.second (paired_through _ _ _ (paired_back _ _ p.agree) q.agree)

  partners : (i j : ℕ) → Pairs a b i j → (partner_of (record_of a i) b ≡ j) × (partner_of (record_of b j) a ≡ i)
  partners i j p =
      (partner_is _ b j t.second_once p.second p.agree, partner_is _ a i t.first_once p.first (paired_back _ _ p.agree))

  same_marks : (i j : ℕ) → Pairs a b i j → mark_of a b i ≡ mark_of b a j
  same_marks i j p =
      mark_paired a b i j (partners i j p).0 p.second
      ∙ ap (λ s. pick s same_mark different_mark) (same_either_way (record_of a i) (record_of b j))
      ∙ sym (mark_paired b a j i (partners i j p).1 p.first)

---- a block against itself

module _ (a : List ℕ) (d : distinct a ≡ true) where
  own_partner : (i : ℕ) → i < records_in a → partner_of (record_of a i) a ≡ i
  own_partner i h = partner_is _ a i d h (paired_self _)

  own_mark : (i : ℕ) → i < records_in a → mark_of a a i ≡ same_mark
  own_mark i h = mark_paired a a i i (own_partner i h) h ∙ pick_true _ _ (same_self _)

  none_alone-holds : (i : ℕ) → 0 ≤ i → i < 0 + records_in a → alone a a i ≡ false
  none_alone-holds i l h = let k : i < records_in a = omega arith in not_alone a a i i (own_partner i k) k

  all_same-holds : entries_of a a ≡ tabulate 0 (records_in a) (λ i. same_mark)
  unfolding entries_of
  all_same-holds =
      rw (none_marked a a 0 (records_in a) none_alone-holds, append-nil)
      (tabulate_ext 0 (records_in a) (mark_of a a) (λ i. same_mark) (λ i l h. own_mark i (omega arith)))

  no_total : (llid : ℕ) → total_of llid a a ≡ 0
  unfolding alone_of
  no_total llid = rw (none_counted llid a a 0 (records_in a) none_alone-holds)

pub compared_laws : (size : ℕ) (a b : List ℕ) → ruling_on size a b ≡ no_denial → Compared size a b
compared_laws size a b e =
    let t = accepting size a b e in
    record {
      one_of_first = one_of_first-holds size a b t;
      one_of_second = one_of_second-holds size a b t;
      partner = partners size a b t;
      accepted = accepted_by size b a (record { room = t.room; first = t.second; second = t.first; first_once = t.second_once; second_once = t.first_once });
      pairing = λ i j p. record { first = p.second; second = p.first; agree = paired_back _ _ p.agree };
      sameness = same_marks size a b t;
      total = λ llid. add_comm (alone_of llid a b) (alone_of llid b a);
      finer = finer a b;
      as_before = λ llid. total_before-holds llid a b;
      itself = accepted_by size a a (record { room = t.room; first = t.first; second = t.first; first_once = t.first_once; second_once = t.first_once });
      all_same = all_same-holds a t.first_once;
      none_alone = no_total a t.first_once;
    }

---- what a block that is accepted has

few_by : (b : List ℕ) (d : Result ℕ Refusal) → directory_of b ≡ d → verdict_on d ≡ no_refusal → records_in b ≤ most_records
few_by b (Ok n) e v = (good b n e).sizes.few
few_by b (Err r) e v = refused_accepts r v

few : (b : List ℕ) → block_verdict b ≡ no_refusal → records_in b ≤ most_records
unfolding block_verdict
few b e = few_by b (directory_of b) refl (then_accepted _ _ e).0

pub comparable : (size : ℕ) (a b : List ℕ) → ruling_on size a b ≡ no_denial → Comparable a b × (size ≡ output_octets)
comparable size a b e =
    let t = accepting size a b e in
    (record { few = few a t.first; few_other = few b t.second; once = t.first_once; once_other = t.second_once }, eqb-true _ _ (not-false _ t.room))
