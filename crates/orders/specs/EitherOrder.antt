-- Two units, either order (02, C-22): two calls at one tick leave the same record and answer the same whichever is made first. Assumes
-- nothing.
use Rattle.std.specs.Prelude.{◌≡◌, true, false}
use Rattle.group_protocol.specs.Head.{valid_head}
use Rattle.group_protocol.specs.declared.HeadEnd.{HeadEnd}
use Rattle.orders.specs.Calls.{Call, after, answer_of}
use Rattle.orders.specs.Parties.{excepted, party_of, same_party}

-- the whole record, places that are not in use too; code, count, what is handed over, and every octet of the output
pub record Commute (h : HeadEnd) (x y : Call) : Type 0 where
  pub head : after (after h x) y ≡ after (after h y) x
  pub first : answer_of h x ≡ answer_of (after h y) x
  pub second : answer_of (after h x) y ≡ answer_of h y

-- of different units or groups, refused calls too
abbrev pub EitherOrder : Type 0
EitherOrder =
    (h : HeadEnd) (x y : Call) → valid_head h ≡ true → same_party (party_of h x) (party_of h y) ≡ false → excepted h x y ≡ false → Commute h x y
