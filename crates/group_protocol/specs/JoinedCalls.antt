-- A unit's calls on one group that it joined (02, C-14). The unit has a, the number in use, and may hold its key (kept) and that of a + 1
-- (held). Assumes nothing.
use Rattle.std.specs.Prelude.{Bool, not, ℕ, ◌+◌, ◌-◌, ◌%◌, leb, ltb, eqb, get_or}
use Rattle.octets.specs.Choice.{both, either, pick}
use Rattle.octets.specs.Lists.{same}
use Rattle.refusal.specs.declared.Refusal.TheVariants.{OutOfRange, ClockNotSet, NothingOutstanding, NoKey, EpamDiffers, ClearEnvelope, BadLength}
use Rattle.refusal.specs.Order.{refuse_if}
use Rattle.clock.specs.Ticks.{epam_of}
use Rattle.envelope.specs.Channels.{downstream}
use Rattle.ends.specs.Flags.{is_up}
use Rattle.ends.specs.Limits.{max_key_number}
use Rattle.ends.specs.Keys.{no_slots, key_in, with_key, only_key}
use Rattle.ends.specs.declared.Identity.{Identity}
use Rattle.ends.specs.declared.OnuClock.{OnuClock}
use Rattle.ends.specs.declared.Onu.{Onu}
use Rattle.protocol.specs.Messages.{key_kind}
use Rattle.protocol.specs.Headers.{valid_header, choice_verdict, passage_of}
use Rattle.protocol.specs.declared.KeyMessage.{KeyMessage}
use Rattle.protocol.specs.declared.Header.{Header}
use Rattle.protocol.specs.declared.KeyChoice.{KeyChoice}
use Rattle.protocol.specs.declared.KeyChoice.TheVariants.{Clear, Current, Next, Barred}
use Rattle.protocol.specs.declared.Passage.{Passage}
use Rattle.group_protocol.specs.declared.Answer.{Answer}
use Rattle.group_protocol.specs.declared.Joined.{Joined}
use Rattle.refusal.specs.Verdict.{Verdict, no_refusal}

-- a call on one joined group: its verdict and, where that accepts, the group after it and what it hands over
pub record JoinedOutcome (H : Type 0) : Type 0 where
  pub verdict : Verdict
  pub joined : Joined
  pub handed : H

---- key message: 5, 8

-- the highest number that a key is held for, 0 where none is
unfoldable pub highest_held : Joined → ℕ
highest_held j = pick (is_up j.keys.held) (j.keys.active + 1) (pick (is_up j.kept) j.keys.active 0)

-- the key of number n is held
unfoldable pub holds : Joined → ℕ → Bool
holds j n = either (both (is_up j.keys.held) (eqb n (j.keys.active + 1))) (both (is_up j.kept) (eqb n j.keys.active))

-- the message of a key that is held, again
unfoldable pub held_again : Joined → KeyMessage → Bool
held_again j m = both (holds j m.number) (same m.key (key_in j.keys.slots m.number))

-- any number above those that are held, up to the last (D42)
unfoldable pub new_number : Joined → KeyMessage → Bool
new_number j m = both (leb m.number max_key_number) (ltb (highest_held j) m.number)

unfoldable pub joined_message_verdict : OnuClock → Joined → KeyMessage → Verdict
joined_message_verdict c j m =
    refuse_if (not (is_up c.synced)) ClockNotSet
    (refuse_if (not (either (new_number j m) (held_again j m))) NothingOutstanding no_refusal)

-- number n tells that n - 1 is in use: its key stays if it is held, all older ones are forgotten, and key n is held
unfoldable pub joined_taken : Joined → KeyMessage → Joined
joined_taken j m =
    record {
      keys =
          record {
            active = m.number - 1;
            held = 1;
            slots = with_key (pick (holds j (m.number - 1)) j.keys.slots no_slots) m.number m.key;
          };
      kept = pick (holds j (m.number - 1)) 1 0;
      llid = j.llid;
    }

-- a new number is taken; anything else that is accepted changes nothing
unfoldable pub joined_after_message : Joined → KeyMessage → Joined
joined_after_message j m = pick (new_number j m) (joined_taken j m) j

abbrev pub no_answer : Answer
no_answer = record { kind = 0; named = 0; unit = 0; number = 0 }

-- an acknowledgement for a group names the unit, by its first LLID (D40)
unfoldable pub group_answer : Identity → ℕ → Answer
group_answer i number = record { kind = key_kind; named = 1; unit = get_or i.llids 0 0; number = number }

-- takes the key, and names the unit and the key's number in its answer
unfoldable pub message_joined : KeyMessage → Onu → Joined → JoinedOutcome Answer
message_joined m o j =
    record {
      verdict = joined_message_verdict o.clock j m;
      joined = joined_after_message j m;
      handed = group_answer o.identity m.number;
    }

---- receive: 14, 1, 10, 5, 11, 9

-- clear while a = 0; index a mod 2: key a if it is held; the other index: key a + 1 if held
unfoldable pub joined_choice : Joined → Header → KeyChoice
joined_choice j h =
    pick (eqb h.encenabled 0) (pick (eqb j.keys.active 0) Clear (Barred ClearEnvelope))
    (pick (both (is_up j.kept) (eqb h.enckey (j.keys.active % 2))) (Current j.keys.active)
    (pick (both (is_up j.keys.held) (eqb h.enckey ((j.keys.active + 1) % 2))) (Next (j.keys.active + 1)) (Barred NoKey)))

unfoldable pub joined_receive_verdict : Bool → OnuClock → Joined → Header → Verdict
joined_receive_verdict misfit c j h =
    refuse_if misfit BadLength
    (refuse_if (not (both (downstream h.channel) (valid_header h))) OutOfRange
    (refuse_if (both (is_up c.synced) (not (eqb h.epam (epam_of c.rx)))) EpamDiffers
    (refuse_if (both (eqb h.encenabled 1) (not (is_up c.synced))) ClockNotSet
    (choice_verdict (joined_choice j h)))))

-- a becomes a + 1, whose key is held; the old one is forgotten
unfoldable pub joined_moved : Joined → Joined
joined_moved j =
    record {
      keys = record { active = j.keys.active + 1; held = 0; slots = only_key j.keys.slots (j.keys.active + 1) };
      kept = 1;
      llid = j.llid;
    }

unfoldable pub joined_after_receipt : KeyChoice → Joined → Joined
joined_after_receipt Clear j = j
joined_after_receipt (Current n) j = j
joined_after_receipt (Next n) j = joined_moved j
joined_after_receipt (Barred r) j = j

-- opened with the OLT's MAC and the Rx clock; misfit says that the lengths of payload and output are refused 14
unfoldable pub receive_joined : Bool → Header → Onu → Joined → JoinedOutcome Passage
receive_joined misfit h o j =
    record {
      verdict = joined_receive_verdict misfit o.clock j h;
      joined = joined_after_receipt (joined_choice j h) j;
      handed = passage_of (joined_choice j h) j.keys.slots o.oltmac o.clock.rx;
    }
