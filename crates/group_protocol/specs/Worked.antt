-- Worked values of groups (02, C-14): of their members, of a switch, and of a member's keys. Assumes nothing.
use Rattle.std.specs.Prelude.{◌≡◌, Bool, true, false, List, [], ◌∷◌, ℕ, ◌^◌, replicate}
use Rattle.refusal.specs.Number.{verdict_number}
use Rattle.ends.specs.Keys.{no_key, noted_at}
use Rattle.ends.specs.Occupancy.{free_channels}
use Rattle.ends.specs.declared.OnuClock.{OnuClock}
use Rattle.protocol.specs.Headers.{key_for, choice_number}
use Rattle.protocol.specs.declared.Header.{Header}
use Rattle.protocol.specs.declared.KeyMessage.{KeyMessage}
use Rattle.protocol.specs.declared.Sending.{Sending}
use Rattle.group_protocol.specs.Members.{fresh_members, valid_members}
use Rattle.group_protocol.specs.GroupCalls.{GroupOutcome, send_group}
use Rattle.group_protocol.specs.Subscriber.{fresh_joined}
use Rattle.group_protocol.specs.JoinedCalls.{joined_message_verdict, joined_after_message, joined_choice, joined_receive_verdict, joined_after_receipt}
use Rattle.group_protocol.specs.declared.GroupRecord.{GroupRecord}
use Rattle.group_protocol.specs.declared.Joined.{Joined}

-- a key of one octet sixteen times
abbrev pub key_of : ℕ → List ℕ
key_of octet = replicate 16 octet

---- members: a unit that is named by two of its LLIDs has one place, and is no member twice

abbrev pub two_members : ℕ → ℕ → Bool
two_members first second = valid_members 4 (fresh_members (first ∷ second ∷ []) 2)

pub record MemberRows : Type 0 where
  pub apart : two_members 0 3 ≡ true
  pub twice : two_members 3 3 ≡ false
  -- there is no fifth unit
  pub past : two_members 0 4 ≡ false

---- the switch: key 1 is in use, key 2 offered and the timer's flag up. No member has acknowledged

abbrev pub offering : GroupRecord
offering =
    record {
      keys =
          record {
            timer = record { interval = 10; count = 0; flag = 1 };
            active = 1;
            offered = 2;
            slots = record { even = key_of 2; odd = key_of 1 };
            first = noted_at 0;
          };
      members = fresh_members (0 ∷ []) 1;
      llid = 7;
    }

abbrev pub switching : GroupOutcome Sending
switching = send_group 7 0 0 (record { mac = 1; tick = 100; clock = 0; channels = free_channels }) offering

pub record SwitchRows : Type 0 where
  -- the send waits for no acknowledgement, and goes under key 2
  pub sent : verdict_number switching.verdict ≡ 0
  pub under : switching.handed.passage.key ≡ key_of 2
  pub active : switching.group.keys.active ≡ 2
  -- key 1 is wiped
  pub even : switching.group.keys.slots.even ≡ key_of 2
  pub odd : switching.group.keys.slots.odd ≡ no_key

---- a member's keys: number n tells it that n - 1 is in use and older keys are forgotten, which keeping a at the highest key held would fail

-- the group's LLID is 7
abbrev pub message_of : ℕ → ℕ → KeyMessage
message_of number octet = record { llid = 7; number = number; key = key_of octet }

abbrev pub set_clock : OnuClock
set_clock = record { synced = 1; time = 0; rx = 0 }

abbrev pub enciphered : ℕ → Header
enciphered index = record { channel = 0; llid = 7; encenabled = 1; enckey = index; epam = 0 }

abbrev pub clear : Header
clear = record { channel = 0; llid = 7; encenabled = 0; enckey = 0; epam = 0 }

-- the message of key 1 came, then that of key 3; the one of key 2 was lost
abbrev pub with_one : Joined
with_one = joined_after_message (fresh_joined 7) (message_of 1 1)

abbrev pub with_three : Joined
with_three = joined_after_message with_one (message_of 3 3)

-- an envelope under key 1 came before the message of key 3
abbrev pub in_use : Joined
in_use = joined_after_receipt (joined_choice with_one (enciphered 1)) with_one

abbrev pub past_two : Joined
past_two = joined_after_message in_use (message_of 3 3)

-- keys 1 and 2 are held, and the message of key 4 comes
abbrev pub past_three : Joined
past_three = joined_after_message (joined_after_message in_use (message_of 2 2)) (message_of 4 4)

-- what a message comes to
abbrev pub message_number : Joined → KeyMessage → ℕ
message_number j m = verdict_number (joined_message_verdict set_clock j m)

pub record MessageRows : Type 0 where
  -- the message of key 3 tells that key 2 is in use, which is not held
  pub active : past_two.keys.active ≡ 2
  pub lost : past_two.kept ≡ 0
  -- that of key 2 tells that key 1 is, which stays
  pub kept : (joined_after_message with_one (message_of 2 2)).kept ≡ 1
  -- that of key 4 tells that key 3 is: keys 1 and 2 are forgotten
  pub even : past_three.keys.slots.even ≡ key_of 4
  pub odd : past_three.keys.slots.odd ≡ no_key
  -- the same again is accepted, and changes nothing
  pub again : message_number with_three (message_of 3 3) ≡ 0
  pub unchanged : joined_after_message with_three (message_of 3 3) ≡ with_three
  -- a held number with another key; numbers neither above nor held; 0; one above the last
  pub other_key : message_number with_three (message_of 3 4) ≡ 8
  pub two : message_number with_three (message_of 2 2) ≡ 8
  pub one : message_number with_three (message_of 1 1) ≡ 8
  pub zero : message_number with_three (message_of 0 0) ≡ 8
  pub above : message_number with_three (message_of (2 ^ 32) 5) ≡ 8

-- what an envelope comes to, and the key that it opens under
abbrev pub receipt_number : Joined → Header → ℕ
receipt_number j h = verdict_number (joined_receive_verdict false set_clock j h)

abbrev pub opening_key : Joined → Header → List ℕ
opening_key j h = key_for (choice_number (joined_choice j h)) j.keys.slots

pub record ReceiptRows : Type 0 where
  pub current : receipt_number with_three (enciphered 0) ≡ 9
  pub clear : receipt_number with_three clear ≡ 11
  pub next : receipt_number with_three (enciphered 1) ≡ 0
  pub under : opening_key with_three (enciphered 1) ≡ key_of 3
  -- not under key 1, which has the same index
  pub stale : opening_key past_two (enciphered 1) ≡ key_of 3
