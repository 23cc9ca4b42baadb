-- Laws of what a call finds. Assumes nothing.
use Rattle.std.specs.Prelude.{Result, Ok, Err}
use mathlib.Core.Path.{◌≡◌, refl, ◌∙◌}
use mathlib.Core.Bool.{Bool, true, false}
use mathlib.Core.List.{List}
use Prim.Native.Nat.{ℕ}
use lib.Dec.{eqb}
use lib.ListN.{length}
use Rattle.octets.specs.Choice.{pick}
use Rattle.octets.specs.Output.{with_output}
use Rattle.octets.proofs.Choice.{not_of_true, not_of_false, both_false_left}
use Rattle.refusal.specs.declared.Refusal.TheVariants.{BadLength}
use Rattle.refusal.proofs.Order.{refuse_passed, refuse_stopped}
use Rattle.records.specs.Near.{signed_octet}
use Rattle.capture.specs.declared.opening.Read.{Read}
use Rattle.directory.specs.Rebuilt.{rebuilt}
use Rattle.directory.specs.Directory.{directory_of}
use Rattle.reading.specs.Verdict.{after_settings}
use Rattle.rights.specs.declared.settings.Caller.{Caller}
use Rattle.rights.specs.Verdict.{class_verdict}
use Rattle.rights.proofs.Accepting.{Valid, valid}
use Rattle.class.specs.Reading.{call_for}
use Rattle.class.specs.Opening.{record_for, expansions_for, opening_after, opening_for}
use Rattle.class.specs.Duties.{TookAllFor}
use Rattle.refusal.specs.Verdict.{Verdict, no_refusal}
use Rattle.refusal.specs.declared.Refusal.{Refusal}

-- what a call that goes on has found
pub record Found (suits : Bool) (c : Caller) (s q b : List ℕ) (n : ℕ) : Type 0 where
  pub suited : suits ≡ true
  pub accepted : class_verdict suits true c s q ≡ no_refusal
  pub valid : Valid c s q
  pub good : directory_of b ≡ Ok n

by_verdict-holds : (v : Verdict) (d : Result ℕ Refusal) (n : ℕ) → after_settings v d ≡ Ok n → (v ≡ no_refusal) × (d ≡ Ok n)
by_verdict-holds (Ok tt) d n e = (refl, e)
by_verdict-holds (Err r) d n e = (cc, cc)

pub found : (suits : Bool) (c : Caller) (s q b : List ℕ) (n : ℕ) → call_for suits c s q b ≡ Ok n → Found suits c s q b n
unfolding call_for
found suits c s q b n e =
    let p = by_verdict-holds (class_verdict suits true c s q) (directory_of b) n e in
    let v = valid suits true c s q p.0 in
    record { suited = v.0; accepted = p.0; valid = v.2; good = p.1 }

-- an output that does not suit is 14, where all else does
unsuited : (c : Caller) (s q : List ℕ) → Valid c s q → class_verdict false true c s q ≡ Err BadLength
unfolding class_verdict
unsuited c s q v = refuse_passed _ _ _ (not_of_true v.user) ∙ refuse_stopped _ _ _ (not_of_false (both_false_left _ refl))

pub call_suits : (suits : Bool) (c : Caller) (s q b : List ℕ) (n : ℕ) → call_for true c s q b ≡ Ok n
    → call_for suits c s q b ≡ pick suits (Ok n) (Err BadLength)
unfolding pick call_for
call_suits true c s q b n e = e
call_suits false c s q b n e = rw (unsuited c s q (found true c s q b n e).valid)

---- the answer of a call that goes on, by its parts
module _ (near : Bool) (c : Caller) (s q b out : List ℕ) (n : ℕ) (e : call_for (eqb (length out) (length b)) c s q b ≡ Ok n) where
  pub opening_good : (r : Read) (x low high : ℕ) (o : List ℕ) → TookAllFor near c s q b r → x ≡ expansions_for c s q
      → low ≡ signed_octet r.drift.smallest
      → high ≡ signed_octet r.drift.largest → o ≡ rebuilt (record_for near c s q b) b
      → with_output (record { opened = Ok (record { count = r.work.count; runs = r.work.runs; expansions = x }); smallest = low; largest = high }) o
      ≡ opening_for near c s q b out
  unfolding opening_for opening_after
  opening_good r x low high o t f g h k = rw (e, f, g, h, k, t.count, t.runs, t.drift)
