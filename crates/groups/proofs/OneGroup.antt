-- A group is left as the unit that it stands for. Assumes nothing.
use Rattle.std.specs.Prelude.{Ok, Err}
use mathlib.Core.Path.{◌≡◌, refl, sym, ap, ◌∙◌}
use mathlib.Core.Bool.{Bool, true}
use mathlib.Core.List.{List}
use Prim.Native.Nat.{ℕ}
use Rattle.octets.specs.Choice.{pick}
use Rattle.refusal.specs.Order.{and_then}
use Rattle.ends.specs.Records.{with_keys, with_confirmation}
use Rattle.ends.specs.declared.Shared.{Shared}
use Rattle.ends.specs.declared.UnitRecord.{UnitRecord}
use Rattle.protocol.specs.Headers.{no_sending, passage_of, sending_of}
use Rattle.protocol.specs.Lift.{Outcome, outcome}
use Rattle.protocol.specs.Messages.{no_key_message}
use Rattle.protocol.specs.Replies.{silent}
use Rattle.protocol.specs.UnitCalls.{offer_unit, retry_unit, unit_offered}
use Rattle.protocol.specs.UnitTraffic.{keys_after_send, send_unit, unit_send_verdict}
use Rattle.protocol.specs.declared.KeyMessage.{KeyMessage}
use Rattle.protocol.specs.declared.Sending.{Sending}
use Rattle.unit.specs.Reached.{if_accepted, reached}
use Rattle.group_protocol.specs.AsUnit.{as_unit}
use Rattle.group_protocol.specs.GroupCalls.{GroupOutcome, group_keys_after_send, group_offered, group_outcome, group_send_choice, offer_group, retry_group, send_group, wiped_at_switch}
use Rattle.group_protocol.specs.Head.{with_group_keys, with_members}
use Rattle.group_protocol.specs.Members.{unmarked}
use Rattle.group_protocol.specs.declared.GroupRecord.{GroupRecord}
use Rattle.group_protocol.proofs.AsUnit.{choice_as_unit, offer_as_unit}
use Rattle.groups.specs.Reached.{reached_group}
use Rattle.refusal.specs.Verdict.{Verdict, no_refusal}

if_accepted-holds : {A : Type 0} (v : Verdict) (a b c : A) → (v ≡ no_refusal → a ≡ b) → if_accepted v a c ≡ if_accepted v b c
unfolding if_accepted
if_accepted-holds (Ok tt) a b c h = h refl
if_accepted-holds (Err r) a b c h = refl

module _ {H : Type 0} (way : Verdict) (nothing : H) (s : Shared) (g : GroupRecord) (u : UnitRecord) (c : Outcome H) (d : GroupOutcome H) where
  -- from the unit's answer to the group's
  pub group_reached : c.verdict ≡ d.verdict → c.channels ≡ d.channels → c.handed ≡ d.handed → (x : Outcome H)
      → x ≡ reached way nothing s u c
      → (r : GroupRecord) → r ≡ if_accepted x.verdict d.group g
      → record { verdict = x.verdict; group = r; channels = x.channels; handed = x.handed } ≡ reached_group way nothing s g d
  unfolding reached reached_group
  group_reached p q t x e r f = rw (f, e, p, q, t)

  -- accepted: what the unit's call left
  pub unit_reached : (x : Outcome H) → x ≡ reached way nothing s u c → x.verdict ≡ no_refusal → x.unit ≡ c.unit
  unfolding reached if_accepted
  unit_reached x e a =
      let v : and_then way c.verdict ≡ no_refusal = sym (ap (λ (y : Outcome H). y.verdict) e) ∙ a in
      ap (λ (y : Outcome H). y.unit) e ∙ rw v

pub offer_reached : (way : Verdict) (s : Shared) (g : GroupRecord) (set : Bool) (llid : ℕ) (key : List ℕ) (x : Outcome KeyMessage) (r : GroupRecord)
    → x ≡ reached way no_key_message s (as_unit g set) (offer_unit llid key s (as_unit g set))
    → r ≡ if_accepted x.verdict (record { keys = x.unit.keys; members = unmarked g.members; llid = g.llid }) g
    → record { verdict = x.verdict; group = r; channels = x.channels; handed = x.handed }
    ≡ reached_group way no_key_message s g (offer_group llid key set s g)
unfolding offer_unit offer_group outcome group_outcome group_offered with_group_keys with_members unit_offered with_keys with_confirmation as_unit
offer_reached way s g set llid key x r e f =
    group_reached way no_key_message s g (as_unit g set) (offer_unit llid key s (as_unit g set)) (offer_group llid key set s g)
    (offer_as_unit g set key) refl refl x
    e r
    (f
    ∙ if_accepted-holds x.verdict _ _ g
    (λ a.
    ap (λ (u : UnitRecord). record { keys = u.keys; members = unmarked g.members; llid = g.llid })
    (unit_reached way no_key_message s g (as_unit g set) (offer_unit llid key s (as_unit g set)) (offer_group llid key set s g) x e a)))

same_after : {A : Type 0} (v : Verdict) (a : A) → a ≡ if_accepted v a a
unfolding if_accepted
same_after (Ok tt) a = refl
same_after (Err r) a = refl

pub retry_reached : (way : Verdict) (s : Shared) (g : GroupRecord) (set : Bool) (llid : ℕ) (x : Outcome KeyMessage)
    → x ≡ reached way no_key_message s (as_unit g set) (retry_unit llid s (as_unit g set))
    → record { verdict = x.verdict; group = g; channels = x.channels; handed = x.handed } ≡ reached_group way no_key_message s g (retry_group llid s g)
unfolding retry_unit retry_group outcome group_outcome as_unit
retry_reached way s g set llid x e =
    group_reached way no_key_message s g (as_unit g set) (retry_unit llid s (as_unit g set)) (retry_group llid s g) refl refl refl x e g
    (same_after x.verdict g)

pub send_reached : (way : Verdict) (s : Shared) (g : GroupRecord) (llid channel eqs : ℕ) (x : Outcome Sending)
    → x ≡ reached way no_sending s (as_unit g true) (send_unit llid channel eqs s (as_unit g true))
    → record {
      verdict = x.verdict;
      group = with_group_keys g (wiped_at_switch x.handed.passage.choice x.unit.keys);
      channels = x.channels;
      handed = x.handed;
    }
    ≡ reached_group way no_sending s g (send_group llid channel eqs s g)
unfolding send_unit unit_send_verdict send_group as_unit reached reached_group with_keys pick
send_reached way s g llid channel eqs x e = rw (e, choice_as_unit g true) (by_verdict-holds (and_then way (send_group llid channel eqs s g).verdict)) where
  by_verdict-holds : (v : Verdict) → let d = send_group llid channel eqs s g in
      ◌≡◌ {A = GroupOutcome Sending}
      (record {
        verdict = v;
        group =
            with_group_keys g
            (wiped_at_switch (if_accepted v d.handed no_sending).passage.choice
            (if_accepted v (with_keys (as_unit g true) (keys_after_send (group_send_choice g.keys) g.keys s.tick)) (as_unit g true)).keys);
        channels = if_accepted v d.channels s.channels;
        handed = if_accepted v d.handed no_sending;
      })
      (record {
        verdict = v;
        group = if_accepted v d.group g;
        channels = if_accepted v d.channels s.channels;
        handed = if_accepted v d.handed no_sending;
      })
  by_verdict-holds (Ok tt) = unfold if_accepted sending_of passage_of group_keys_after_send in refl
  by_verdict-holds (Err r) = unfold if_accepted with_group_keys wiped_at_switch in refl

-- a call that hands over nothing and leaves the channels
pub quiet_reached : (way : Verdict) (s : Shared) (g : GroupRecord) (v : Verdict) (next : GroupRecord)
    → group_outcome s (and_then way v) (if_accepted (and_then way v) next g) silent ≡ reached_group way silent s g (group_outcome s v next silent)
unfolding group_outcome reached_group
quiet_reached way s g v next = rw (← same_after (and_then way v) s.channels, ← same_after (and_then way v) silent)
