-- The code of each refusal (01, 'When the reader says no'; 02, C-11, C-14, C-15, C-19, C-21, C-23), and the pair that it names. Assumes nothing.
use Rattle.std.specs.Prelude.{ℕ, Ok, Err}
use Rattle.refusal.specs.declared.Refusal.{Refusal}
use Rattle.refusal.specs.declared.Refusal.TheVariants.{OutOfRange, UnknownLlid, RepeatedLlid, TableFull, ClockNotSet, OfferPending, SameKey, NothingOutstanding, NoKey, EpamDiffers, ClearEnvelope, ChannelTaken, KeyTooOld, BadLength, BadDirectory, CaptureTooOld, AtEnd, BrokenChain, UnsuitedLength, GroupLlid, BadMember, RepeatedRecord, UnknownUser, NoRight, OtherKeyIndex, BadScript}
use Rattle.refusal.specs.Verdict.{Verdict}

abbrev pub number_of : Refusal → ℕ
number_of OutOfRange = 1
number_of UnknownLlid = 2
number_of RepeatedLlid = 3
number_of TableFull = 4
number_of ClockNotSet = 5
number_of OfferPending = 6
number_of SameKey = 7
number_of NothingOutstanding = 8
number_of NoKey = 9
number_of EpamDiffers = 10
number_of ClearEnvelope = 11
number_of ChannelTaken = 12
number_of KeyTooOld = 13
number_of BadLength = 14
number_of BadDirectory = 15
number_of CaptureTooOld = 16
number_of AtEnd = 17
number_of (BrokenChain k) = 18
number_of (UnsuitedLength k) = 19
number_of GroupLlid = 20
number_of BadMember = 21
number_of RepeatedRecord = 22
number_of UnknownUser = 23
number_of NoRight = 24
number_of OtherKeyIndex = 25
number_of BadScript = 26

-- the pair of a capture's directory, from 1, 0 where there is none (02, C-11)
abbrev pub pair_number : Refusal → ℕ
pair_number OutOfRange = 0
pair_number UnknownLlid = 0
pair_number RepeatedLlid = 0
pair_number TableFull = 0
pair_number ClockNotSet = 0
pair_number OfferPending = 0
pair_number SameKey = 0
pair_number NothingOutstanding = 0
pair_number NoKey = 0
pair_number EpamDiffers = 0
pair_number ClearEnvelope = 0
pair_number ChannelTaken = 0
pair_number KeyTooOld = 0
pair_number BadLength = 0
pair_number BadDirectory = 0
pair_number CaptureTooOld = 0
pair_number AtEnd = 0
pair_number (BrokenChain k) = k
pair_number (UnsuitedLength k) = k
pair_number GroupLlid = 0
pair_number BadMember = 0
pair_number RepeatedRecord = 0
pair_number UnknownUser = 0
pair_number NoRight = 0
pair_number OtherKeyIndex = 0
pair_number BadScript = 0

-- acceptance returns 0
abbrev pub verdict_number : Verdict → ℕ
verdict_number (Ok tt) = 0
verdict_number (Err r) = number_of r

abbrev pub verdict_pair : Verdict → ℕ
verdict_pair (Ok tt) = 0
verdict_pair (Err r) = pair_number r
