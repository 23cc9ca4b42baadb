-- Laws of going through a block record by record, by whatever judges the records. Assumes nothing.
use mathlib.Core.Path.{◌≡◌, refl, ap, ap₂, ◌∙◌}
use mathlib.Core.List.{List}
use Prim.Native.Nat.{ℕ, ◌+◌, ◌≤◌, ◌<◌}
use native.Mathlib.Numerals.{add-one}
use Rattle.std.specs.Prelude.{Ok}
use Rattle.records.specs.declared.header.Header.{Header}
use Rattle.records.specs.declared.near.Drift.{Drift}
use Rattle.records.specs.declared.near.Heard.{Heard}
use Rattle.records.specs.Record.{record_octets}
use Rattle.records.specs.Block.{most_octets, directory_octets, due_of, header_from}
use Rattle.records.specs.Near.{no_drift}
use Rattle.directory.specs.Directory.{directory_of}
use Rattle.directory.proofs.Records.{Reached, good, reached}
use Rattle.capture.specs.declared.walk.Turn.{Turn}
use Rattle.capture.specs.declared.walk.Walk.{Walk}
use Rattle.capture.specs.Walk.{drift_walked, verdict_walked}

-- the walk is ahead of record i
pub record Ahead {V : Type 0} (judged : Drift → Header → Heard V) (b : List ℕ) (w : Walk) (i : ℕ) : Type 0 where
  pub place : w.from ≡ due_of b i
  pub drift : w.drift ≡ drift_walked judged b i

-- record i in its turn, and the walk behind it
pub record Turned {V : Type 0} (judged : Drift → Header → Heard V) (b : List ℕ) (n i : ℕ) (next : Walk) (t : Turn V) : Type 0 where
  pub place : t.from ≡ due_of b i
  pub reached : Reached b n i t.from t.header
  pub verdict : t.verdict ≡ verdict_walked judged b i
  pub ahead : Ahead judged b next (i + 1)

module _ {V : Type 0} (judged : Drift → Header → Heard V) (b : List ℕ) (n : ℕ) (g : directory_of b ≡ Ok n) where
  pub start_ahead : {w : Walk} → w ≡ record { from = directory_octets n; drift = no_drift } → Ahead judged b w 0
  unfolding drift_walked due_of
  start_ahead e = record { place = ap (λ (x : Walk). x.from) e ∙ rw (good b n g).count; drift = ap (λ (x : Walk). x.drift) e }

  module _ {i : ℕ} {w : Walk} (a : Ahead judged b w i) (l : i < n) where
    turn_fits : w.from + record_octets (header_from b w.from).eqs ≤ most_octets
    turn_fits = (reached b n i w.from _ g l a.place refl).end

    pub turned : {t : Turn V} {next : Walk} → t.from ≡ w.from → t.header ≡ header_from b w.from → t.verdict ≡ (judged w.drift t.header).verdict
        → next.drift ≡ (judged w.drift t.header).drift
        → (w.from + record_octets (header_from b w.from).eqs ≤ most_octets → next.from ≡ w.from + record_octets t.header.eqs)
        → Turned judged b n i next t
    unfolding drift_walked
    turned {t} {next} et eh ev ed ef =
        let x = reached b n i w.from t.header g l a.place eh in
        record {
          place = et ∙ a.place;
          reached = rw et x;
          verdict = ev ∙ ap₂ (λ (d : Drift) (h : Header). (judged d h).verdict) a.drift x.header;
          ahead = record {
            place = ef turn_fits ∙ x.next;
            drift = rw add-one (ed ∙ ap₂ (λ (d : Drift) (h : Header). (judged d h).drift) a.drift x.header);
          };
        }
