-- What the class's program reads (02, C-19): three octets, for the counts of sets and users and the user's number, then sets, rights and
-- block; and what it prints. Assumes nothing.
use Rattle.std.specs.Prelude.{false, List, ◌++◌, ℕ, ◌+◌, ◌*◌, ltb, length, get_or, drop}
use Rattle.octets.specs.Choice.{pick}
use Rattle.octets.specs.Lists.{part}
use Rattle.refusal.specs.declared.Refusal.TheVariants.{BadLength}
use Rattle.records.specs.Settings.{settings_octets}
use Rattle.rows.specs.Text.{refused_row}
use Rattle.reading.specs.Listing.{heading_text}
use Rattle.rights.specs.declared.settings.Caller.{Caller}
use Rattle.class.specs.Listing.{body_for}

abbrev pub caller_octets : ℕ
caller_octets = 3

abbrev pub input_caller : List ℕ → Caller
input_caller x = record { sets = get_or x 0 0; users = get_or x 1 0; user = get_or x 2 0 }

-- where the rights and the block begin
abbrev pub rights_at : List ℕ → ℕ
rights_at x = caller_octets + settings_octets * (input_caller x).sets

abbrev pub block_at : List ℕ → ℕ
block_at x = rights_at x + (input_caller x).sets * (input_caller x).users

abbrev pub input_sets : List ℕ → List ℕ
input_sets x = part x caller_octets (settings_octets * (input_caller x).sets)

abbrev pub input_rights : List ℕ → List ℕ
input_rights x = part x (rights_at x) ((input_caller x).sets * (input_caller x).users)

-- an input that ends before the block has a block of no octets
abbrev pub input_block : List ℕ → List ℕ
input_block x = drop (block_at x) x

-- an input of less than three octets is 14; the program reads the usual way
unfoldable pub input_body : List ℕ → List ℕ
input_body x =
    pick (ltb (length x) caller_octets) (refused_row BadLength) (body_for false (input_caller x) (input_sets x) (input_rights x) (input_block x))

unfoldable pub input_listing : List ℕ → List ℕ
input_listing x = heading_text ++ input_body x
