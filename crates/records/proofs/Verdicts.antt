-- Laws of the verdict on a record: what the tests that lead to a verdict say of it. Assumes nothing.
use Rattle.std.specs.Prelude.{Ok, Err}
use mathlib.Core.Path.{◌≡◌, sym, ◌∙◌}
use mathlib.Core.Bool.{true, false}
use mathlib.Core.List.{List}
use Prim.Native.Nat.{ℕ}
use lib.Dec.{eqb}
use lib.ListN.{length}
use borrow.Author.Tests.{eq-eqb, eqb-true}
use Rattle.octets.proofs.Choice.{pick_true, pick_false, pick_first}
use Rattle.refusal.specs.declared.Refusal.TheVariants.{OutOfRange, UnknownLlid, NoKey, EpamDiffers, BadLength}
use Rattle.clock.specs.Ticks.{epam_of}
use Rattle.records.specs.Settings.{settings_octets, key_present, settings_verdict}
use Rattle.records.specs.Verdict.{header_fits, enc_enabled, enc_key, key_verdict, in_order, record_verdict}
use Rattle.records.specs.declared.header.Header.{Header}
use Rattle.records.specs.declared.header.Access.TheVariants.{Clear, Sealed}
use Rattle.refusal.specs.Verdict.{no_refusal}

module _ (presence llid t : ℕ) (h : Header) where
  pub by_key : header_fits h ≡ true → h.llid ≡ llid → h.epam ≡ epam_of t → key_verdict presence t h.flags ≡ record_verdict presence llid t h
  unfolding record_verdict in_order
  by_key f e a = sym (pick_true _ _ f ∙ pick_true _ _ (eq-eqb _ _ e) ∙ pick_true _ _ (eq-eqb _ _ a))

module _ (presence t flags : ℕ) where
  pub is_clear : enc_enabled flags ≡ false → (Ok Clear) ≡ key_verdict presence t flags
  unfolding key_verdict
  is_clear n = sym (pick_false _ _ n)

  pub lacks_key : enc_enabled flags ≡ true → key_present presence (enc_key flags) ≡ false → Err NoKey ≡ key_verdict presence t flags
  unfolding key_verdict
  lacks_key e n = sym (pick_true _ _ e ∙ pick_false _ _ n)

  pub is_sealed-holds : enc_enabled flags ≡ true → key_present presence (enc_key flags) ≡ true
      → Ok (Sealed (enc_key flags) t) ≡ key_verdict presence t flags
  unfolding key_verdict
  is_sealed-holds e p = sym (pick_true _ _ e ∙ pick_true _ _ p)

-- settings that are accepted have their length
pub settings_octets-holds : (s : List ℕ) → settings_verdict s ≡ no_refusal → length s ≡ settings_octets
unfolding settings_verdict
settings_octets-holds s e = eqb-true _ _ (pick_first (eqb (length s) settings_octets) _ (Err BadLength) no_refusal (λ z. cc) e).0

-- what holds of a record that is judged at the clock t and to be opened under key i at the clock u
pub record Openable (presence llid t : ℕ) (h : Header) (i u : ℕ) : Type 0 where
  pub fits : header_fits h ≡ true
  pub own : h.llid ≡ llid
  pub epam : h.epam ≡ epam_of t
  pub enciphered : enc_enabled h.flags ≡ true
  pub present : key_present presence i ≡ true
  pub index : i ≡ enc_key h.flags
  pub clock : u ≡ t

pub openable : (presence llid t : ℕ) (h : Header) (i u : ℕ) → record_verdict presence llid t h ≡ Ok (Sealed i u) → Openable presence llid t h i u
unfolding record_verdict in_order key_verdict
openable presence llid t h i u e =
    let a = pick_first (header_fits h) _ (Err OutOfRange) (Ok (Sealed i u)) (λ z. cc) e in
    let b = pick_first (eqb h.llid llid) _ (Err UnknownLlid) (Ok (Sealed i u)) (λ z. cc) a.1 in
    let c = pick_first (eqb h.epam (epam_of t)) _ (Err EpamDiffers) (Ok (Sealed i u)) (λ z. cc) b.1 in
    let d = pick_first (enc_enabled h.flags) _ (Ok Clear) (Ok (Sealed i u)) (λ z. cc) c.1 in
    let f = pick_first (key_present presence (enc_key h.flags)) _ (Err NoKey) (Ok (Sealed i u)) (λ z. cc) d.1 in
    let index : i ≡ enc_key h.flags = cc in
    record {
      fits = a.0;
      own = eqb-true _ _ b.0;
      epam = eqb-true _ _ c.0;
      enciphered = d.0;
      present = rw index f.0;
      index = index;
      clock = cc;
    }
