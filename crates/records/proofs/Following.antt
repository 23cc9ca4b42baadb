-- A reader whose clock follows the sender's reads at the sender's clock. The sums are by how much the sender's clock is ahead: then the
-- clock expected is within a step of the sender's, which is the only one so near with its low six bits. Assumes nothing.
use Rattle.std.specs.Prelude.{Option, Some, None}
use mathlib.Core.Path.{◌≡◌, refl, sym, ap, ◌∙◌}
use mathlib.Core.Bool.{Bool, true, false}
use mathlib.Core.List.{List}
use Prim.Native.Nat.{ℕ, zero, suc, ◌+◌, ◌-◌, ◌%◌, ◌≤◌, ◌<◌}
use native.Mathlib.Omega.{arith}
use lib.Dec.{eqb}
use lib.ListN.{length, get_or, length-set, get_or-replicate}
use lib.Seq.{get_or-set_same, get_or-set_other}
use borrow.Author.Tests.{eqb-true, eqb-false}
use Rattle.octets.specs.Bits.{bit_of, low_cleared}
use Rattle.octets.specs.Choice.{both, either, pick}
use Rattle.octets.proofs.Choice.{both_left, both_right, both_true, both_false_left, both_false_right, pick_true, pick_false, true_false}
use Rattle.clock.specs.Ticks.{clock_turn, epam_of}
use Rattle.envelope.specs.Channels.{downstream, upstream, channel_fits}
use Rattle.records.specs.declared.header.Header.{Header}
use Rattle.records.specs.declared.near.Drift.{Drift}
use Rattle.records.specs.Settings.{presence_of, llid_of}
use Rattle.records.specs.Record.{record_header}
use Rattle.records.specs.Block.{offset_of, length_of, record_of}
use Rattle.records.specs.Verdict.{enc_enabled, flags_fit, header_fits, in_order, record_verdict, verdict_for}
use Rattle.records.specs.Near.{stepped, nearest, sum_at, expected, corrected, own, far_verdict, heard_at, heard}
use Rattle.records.specs.Following.{header_of, drift_at, near_verdict, ahead, Follows, ReadsAsSent, slipped_settings, slipped_block, slipped_sent, Promise}
use Rattle.records.proofs.Steps.{is_nearest, own_place, place_below}

pick_other : {A : Type 0} (f o : Bool) (x y z w : A) → both f o ≡ false → pick f (pick o x z) w ≡ pick f (pick o y z) w
unfolding both pick
pick_other true true x y z w e = true_false e
pick_other true false x y z w e = refl
pick_other false o x y z w e = refl

-- a header that is not past 1 and 2 has the same verdict at every clock, and moves nothing
far_other : (llid : ℕ) (h : Header) (presence t : ℕ) → own llid h ≡ false → record_verdict presence llid t h ≡ far_verdict llid h
unfolding record_verdict in_order far_verdict own
far_other llid h presence t e = pick_other (header_fits h) (eqb h.llid llid) _ _ _ _ e

other_at : (presence llid t : ℕ) (drift : Drift) (h : Header) (c : Option ℕ) → own llid h ≡ false
    → ((heard_at presence llid drift h c).verdict ≡ record_verdict presence llid t h) × ((heard_at presence llid drift h c).drift ≡ drift)
unfolding heard_at
other_at presence llid t drift h None e = (sym (far_other llid h presence t e), refl)
other_at presence llid t drift h (Some d) e =
    (far_other llid h presence _ e ∙ sym (far_other llid h presence t e), pick_false _ _ e)

-- one that is past them is judged at the clock of its step, which is added
own_at : (presence llid t d : ℕ) (drift : Drift) (h : Header) → own llid h ≡ true → nearest (expected drift h) h.epam ≡ Some d
    → stepped (expected drift h) d ≡ t
    → ((heard presence llid drift h).verdict ≡ record_verdict presence llid t h) × ((heard presence llid drift h).drift ≡ corrected drift h.channel d)
unfolding heard heard_at
own_at presence llid t d drift h o n e = (rw n (ap (λ (x : ℕ). record_verdict presence llid x h) e), rw n (pick_true _ _ o))

-- the place of a header that is past 1 and 2
own_below : (llid : ℕ) (h : Header) → own llid h ≡ true → sum_at h.channel < 4
unfolding own header_fits
own_below llid h o = place_below h.channel (both_left _ _ (both_right _ _ (both_left _ _ o)))

-- a clock c with a steps and a correction more is, less c, the steps with the correction
less_clock : (c a d x : ℕ) → x ≡ stepped ((c + a) % clock_turn) d → stepped a d ≡ (x + (clock_turn - c % clock_turn)) % clock_turn
less_clock c a d x e = omega arith

-- the sums are by how much the sender's clock is ahead
pub record Holds (sent : ℕ → ℕ) (s b : List ℕ) (i : ℕ) : Type 0 where
  pub places : length (drift_at s b i).sums ≡ 4
  pub sums : (p : ℕ) → p < 4 → get_or (drift_at s b i).sums p 0 ≡ ahead sent s b i p

-- record i has the verdict of the sender's clock, and the sums hold behind it
abbrev Turned : (ℕ → ℕ) → List ℕ → List ℕ → ℕ → Type 0
Turned sent s b i =
    (near_verdict s b i ≡ record_verdict (presence_of s) (llid_of s) (sent i % clock_turn) (header_of b i)) × Holds sent s b (suc i)

module _ (sent : ℕ → ℕ) (s b : List ℕ) (i : ℕ) (v : Holds sent s b i) where
  turn_other : own (llid_of s) (header_of b i) ≡ false → Turned sent s b i
  unfolding near_verdict drift_at ahead heard
  turn_other o =
      let q = other_at (presence_of s) (llid_of s) (sent i % clock_turn) (drift_at s b i) (header_of b i) _ o in
      (q.0, record { places = rw q.1 v.places; sums = λ p h. rw q.1 (v.sums p h ∙ sym (pick_false _ _ (both_false_left _ o))) })

  -- the sum of a channel index once a step is added, and the other sums
  added : (d p : ℕ) → own (llid_of s) (header_of b i) ≡ true → p < 4
      → sent i ≡ stepped (((header_of b i).clock + ahead sent s b i (sum_at (header_of b i).channel)) % clock_turn) d
      → (t : Bool) → eqb (sum_at (header_of b i).channel) p ≡ t
      → get_or (corrected (drift_at s b i) (header_of b i).channel d).sums p 0 ≡ ahead sent s b (suc i) p
  unfolding corrected ahead
  added d p o h e true q =
      let c = sum_at (header_of b i).channel in
      let same : c ≡ p = eqb-true _ _ q in
      let old = v.sums p h in
      let back = pick_true _ _ (both_true o q) in
      rw same (get_or-set_same (drift_at s b i).sums p _ 0 (omega (arith, v.places)) ∙ rw old (less_clock _ _ d _ (rw same at e))) ∙ sym back
  added d p o h e false q =
      get_or-set_other (drift_at s b i).sums (sum_at (header_of b i).channel) p _ 0 (λ z. eqb-false _ _ q (sym z))
      ∙ v.sums p h ∙ sym (pick_false _ _ (both_false_right _ q))

  turn_own : own (llid_of s) (header_of b i) ≡ true → Follows sent s b i → Turned sent s b i
  unfolding near_verdict drift_at
  turn_own o f =
      let h = header_of b i in
      let at = expected (drift_at s b i) h in
      let there : at ≡ (h.clock + ahead sent s b i (sum_at h.channel)) % clock_turn =
      ap (λ (x : ℕ). (h.clock + x) % clock_turn) (v.sums (sum_at h.channel) (own_below (llid_of s) h o)) in
      let hit : stepped at f.step ≡ sent i = ap (λ (x : ℕ). stepped x f.step) there ∙ sym f.slip in
      let near = (is_nearest at h.epam).only f.step f.within (ap epam_of hit ∙ sym f.epam) in
      let q = own_at (presence_of s) (llid_of s) (sent i % clock_turn) f.step (drift_at s b i) h o near (hit ∙ omega (arith, f.slip)) in (
        q.0,
        record {
          places = rw q.1 (unfold corrected in simp length-set v.places);
          sums = λ p l. rw q.1 (added f.step p o l f.slip (eqb (sum_at h.channel) p) refl);
        },
      )

  turn : (t : Bool) → own (llid_of s) (header_of b i) ≡ t → (own (llid_of s) (header_of b i) ≡ true → Follows sent s b i) → Turned sent s b i
  turn true o f = turn_own o (f o)
  turn false o f = turn_other o

module _ (sent : ℕ → ℕ) (s b : List ℕ) (n : ℕ) (f : (i : ℕ) → i < n → own (llid_of s) (header_of b i) ≡ true → Follows sent s b i) where
  at_each : (i : ℕ) → i ≤ n → Holds sent s b i
  unfolding drift_at ahead
  at_each zero h = record { places = refl; sums = λ p l. get_or-replicate 4 p 0 0 l }
  at_each (suc i) h = (turn sent s b i (at_each i (omega arith)) (own (llid_of s) (header_of b i)) refl (f i (omega arith))).1

reads_as_sent-holds : (s b : List ℕ) → ReadsAsSent s b
unfolding verdict_for record_verdict header_fits
reads_as_sent-holds s b sent n f i h =
    (turn sent s b i (at_each sent s b n f i (omega arith)) (own (llid_of s) (header_of b i)) refl (f i h)).0

---- the block that slipped

own_slipped : (i : ℕ) → i < 2 → own (llid_of slipped_settings) (header_of slipped_block i) ≡ true
unfolding own header_fits channel_fits downstream upstream flags_fit enc_enabled bit_of low_cleared both either pick record_header record_of
    offset_of length_of llid_of
own_slipped zero h = refl
own_slipped (suc zero) h = refl
own_slipped (suc (suc i)) h = absurd (omega arith)

follows_slipped : (i : ℕ) → i < 2 → Follows slipped_sent slipped_settings slipped_block i
unfolding ahead own header_fits channel_fits downstream upstream flags_fit enc_enabled bit_of low_cleared both either pick record_header
    record_of offset_of length_of
    llid_of
follows_slipped zero h = record { epam = refl; step = 56; within = omega arith; slip = refl }
follows_slipped (suc zero) h = record { epam = refl; step = 11; within = omega arith; slip = refl }
follows_slipped (suc (suc i)) h = absurd (omega arith)

pub kept : Promise
kept = record { places = own_place; reads_as_sent = reads_as_sent-holds; own = own_slipped; follows = follows_slipped }
