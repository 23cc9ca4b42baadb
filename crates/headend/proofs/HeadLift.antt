-- What the place of a group makes of a call on it. Assumes nothing.
use Rattle.std.specs.Prelude.{Ok, Err}
use mathlib.Core.Path.{◌≡◌, refl}
use mathlib.Core.Bool.{Bool, true, false}
use Prim.Native.Nat.{ℕ}
use lib.Seq.{set-get_or}
use Rattle.refusal.specs.Order.{refuse_if, and_then}
use Rattle.ends.specs.Records.{with_channels}
use Rattle.ends.specs.Table.{with_olt_channels}
use Rattle.ends.specs.declared.Olt.{Olt}
use Rattle.protocol.specs.Replies.{reply, on_valid}
use Rattle.unit.specs.Reached.{if_accepted}
use Rattle.unit.proofs.Reached.{if_same}
use Rattle.protocol.specs.Messages.{no_key_message}
use Rattle.protocol.specs.declared.KeyMessage.{KeyMessage}
use Rattle.group_protocol.specs.GroupCalls.{GroupOutcome, group_outcome, retry_group}
use Rattle.group_protocol.specs.Head.{past_group, group_at, with_group, valid_head}
use Rattle.group_protocol.specs.declared.GroupRecord.{GroupRecord}
use Rattle.group_protocol.specs.declared.HeadEnd.{HeadEnd}
use Rattle.group_protocol.specs.Naming.{put_group, group_lift}
use Rattle.groups.specs.Reached.{reached_group}
use Rattle.refusal.specs.Verdict.{Verdict}

-- 1 for the end comes ahead of all
way_then : (t : Bool) (a v : Verdict) → and_then (on_valid t a) v ≡ on_valid t (and_then a v)
unfolding refuse_if and_then
way_then true a v = refl
way_then false a v = refl

-- a group put where it stands
pub with_group_itself : (h : HeadEnd) (i : ℕ) → with_group h i h.olt.shared.channels (group_at h i) ≡ h
unfolding with_group with_olt_channels with_channels
with_group_itself h i = rw (set-get_or h.groups.table i past_group)

-- a retry changes nothing
pub group_stays : (h : HeadEnd) (llid i : ℕ) (way : Verdict) (x : GroupOutcome KeyMessage)
    → x ≡ reached_group way no_key_message h.olt.shared (group_at h i) (retry_group llid h.olt.shared (group_at h i))
    → with_group h i x.channels x.group ≡ h
unfolding reached_group retry_group group_outcome
group_stays h llid i way x e =
    let v = and_then way (retry_group llid h.olt.shared (group_at h i)).verdict in
    rw (e, if_same v (group_at h i), if_same v h.olt.shared.channels) (with_group_itself h i)

module _ {H : Type 0} (h : HeadEnd) (nothing : H) (ahead : Verdict) (call : Olt → GroupRecord → GroupOutcome H) (i : ℕ) where
  -- what the call leaves, by the group's decision
  pub lift_group : (x : GroupOutcome H)
      → x ≡ reached_group (on_valid (valid_head h) ahead) nothing h.olt.shared (group_at h i) (call h.olt (group_at h i))
      → record { verdict = x.verdict; end = with_group h i x.channels x.group; handed = x.handed } ≡ group_lift h nothing ahead call i
  unfolding group_lift put_group reached_group
  lift_group x e =
      let c = call h.olt (group_at h i) in
      rw (e, way_then (valid_head h) ahead c.verdict) (by_verdict-holds (on_valid (valid_head h) (and_then ahead c.verdict))) where
        by_verdict-holds : (v : Verdict) → let c = call h.olt (group_at h i) in
            record {
              verdict = v;
              end = with_group h i (if_accepted v c.channels h.olt.shared.channels) (if_accepted v c.group (group_at h i));
              handed = if_accepted v c.handed nothing;
            }
            ≡ reply v h nothing (with_group h i c.channels c.group) c.handed
        by_verdict-holds (Ok tt) = unfold if_accepted reply in refl
        by_verdict-holds (Err r) = unfold if_accepted reply in rw (with_group_itself h i)
