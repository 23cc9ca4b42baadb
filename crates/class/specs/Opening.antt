-- Opening a capture block b for the user who asks (02, C-19). Assumes nothing.
use Rattle.std.specs.Prelude.{Bool, List, ◌++◌, ℕ, ◌*◌, ◌/◌, ◌%◌, eqb, length, get_or, replicate, Result, Ok, Err}
use Rattle.octets.specs.BigEndian.{octets_of}
use Rattle.octets.specs.Choice.{both, pick}
use Rattle.octets.specs.Eqs.{eq_octets}
use Rattle.octets.specs.Lists.{sum}
use Rattle.octets.specs.Output.{WithOutput, with_output}
use Rattle.envelope.specs.ControlMask.{count_enciphered, runs}
use Rattle.records.specs.Settings.{settings_keys, presence_of, key_present}
use Rattle.records.specs.Record.{record_header}
use Rattle.records.specs.Block.{records_in, record_of}
use Rattle.records.specs.Near.{signed_octet}
use Rattle.reading.specs.declared.NearAnswer.{NearAnswer}
use Rattle.reading.specs.Opening.{written_as, added_as}
use Rattle.directory.specs.Rebuilt.{rebuilt}
use Rattle.rights.specs.declared.settings.Caller.{Caller}
use Rattle.rights.specs.declared.judging.ClassVerdict.{ClassVerdict}
use Rattle.rights.specs.declared.judging.ClassVerdict.TheVariants.{Hidden, Seen, Told}
use Rattle.rights.specs.Settings.{set_of, own_rights}
use Rattle.rights.specs.Rights.{may_open}
use Rattle.class.specs.Reading.{set_at, drift_for, told_of, call_for}
use Rattle.refusal.specs.declared.Refusal.{Refusal}

-- a hidden record is zeros but for its EQs (D96); its header has 16 octets, the last four of them the EQs
unfoldable pub hidden_record : ℕ → List ℕ
hidden_record eqs = replicate 12 0 ++ (octets_of 4 eqs ++ replicate (eq_octets * eqs) 0)

-- a record r of the set s as a user gets it: a seen one is copied unchanged, another as document 01's reader writes it
unfoldable pub written_for : List ℕ → List ℕ → ClassVerdict → List ℕ
written_for s r Hidden = hidden_record (record_header r).eqs
written_for s r Seen = r
written_for s r (Told v) = written_as s r v

-- what it adds to a sum over payloads: hidden and seen ones add nothing
unfoldable pub added_for : (List ℕ → ℕ) → List ℕ → ClassVerdict → ℕ
added_for g r Hidden = 0
added_for g r Seen = 0
added_for g r (Told v) = added_as g r v

module _ (near : Bool) (c : Caller) (s q b : List ℕ) where
  abbrev pub record_for : ℕ → List ℕ
  record_for i = written_for (set_at c s b i) (record_of b i) (told_of near c s q b i)

  abbrev pub adds_for : (List ℕ → ℕ) → ℕ → ℕ
  adds_for g i = added_for g (record_of b i) (told_of near c s q b i)

  unfoldable pub total_for : (List ℕ → ℕ) → ℕ
  total_for g = sum 0 (records_in b) (adds_for g)

-- key k of the class is key k % 2 of set k / 2; it is expanded if it is present and the user may open that set
unfoldable pub is_expanded : Caller → List ℕ → List ℕ → ℕ → Bool
is_expanded c s q k =
    both (may_open (get_or (own_rights c q) (k / settings_keys) 0)) (key_present (presence_of (set_of s (k / settings_keys))) (k % settings_keys))

-- one expansion for each such key
unfoldable pub expansions_for : Caller → List ℕ → List ℕ → ℕ
expansions_for c s q = sum 0 (settings_keys * c.sets) (λ k. pick (is_expanded c s q k) 1 0)

-- a refused call has no corrections, and leaves the output as it was lent
unfoldable pub opening_after : Result ℕ Refusal → Bool → Caller → List ℕ → List ℕ → List ℕ → List ℕ → WithOutput NearAnswer
opening_after (Ok n) near c s q b out =
    with_output
    (record {
      opened = Ok (record { count = total_for near c s q b count_enciphered; runs = total_for near c s q b runs; expansions = expansions_for c s q });
      smallest = signed_octet (drift_for near c s q b (records_in b)).smallest;
      largest = signed_octet (drift_for near c s q b (records_in b)).largest;
    })
    (rebuilt (record_for near c s q b) b)
opening_after (Err r) near c s q b out = with_output (record { opened = Err r; smallest = 0; largest = 0 }) out

-- out is the output as it was lent
unfoldable pub opening_for : Bool → Caller → List ℕ → List ℕ → List ℕ → List ℕ → WithOutput NearAnswer
opening_for near c s q b out = opening_after (call_for (eqb (length out) (length b)) c s q b) near c s q b out
