-- `class::asker::Asker::expand_at` meets its contract: its test is that of a key to be expanded. Assumes nothing.
use mathlib.Core.Path.{◌≡◌, sym, ap, ◌∙◌}
use mathlib.Core.Bool.{true, false}
use mathlib.Core.List.{List}
use Prim.Native.Nat.{ℕ, ◌%◌}
use lib.ListN.{length}
use borrow.Author.Rules.{rules}
use Rattle.octets.specs.Choice.{both}
use Rattle.records.specs.Settings.{key_present, key_of}
use Rattle.cipher.specs.KeyExpansion.{key_expansion}
use Rattle.class.specs.Opening.{is_expanded}
use Rattle.class.proofs.Expanding.{not_expanded, expanded_there}
use Rattle.class.proofs.asker.Asker.expand_at.Goals as goal

pub returns-then-not-opens-bit : goal.returns-then-not-opens-bit
unfolding both is_expanded key_present
returns-then-not-opens-bit c =
    -- the test made is that of a key to be expanded
    let tested : is_expanded c.args.self.now.caller c.args.self.now.sets.now c.args.self.now.rights.now c.args.k ≡ false =
    rw (
      sym c.set_at-set.ensures,
      sym c.rights_at.ensures,
      sym c.may_open-opens.ensures,
      sym c.presence.ensures,
      sym c.bit.ensures,
    )
    c.if-not-opens-bit.true in
    not_expanded _ _ _ _ _ tested

pub returns : goal.returns
unfolding both is_expanded key_present
returns c =
    -- the test made is that of a key to be expanded
    let tested : is_expanded c.args.self.now.caller c.args.self.now.sets.now c.args.self.now.rights.now c.args.k ≡ true =
    rw (
      sym c.set_at-set.ensures,
      sym c.rights_at.ensures,
      sym c.may_open-opens.ensures,
      sym c.presence.ensures,
      sym c.bit.ensures,
    )
    c.if-not-opens-bit.false in
    let w = c.expand_key.ensures ∙ ap key_expansion (c.key.ensures ∙ ap (λ (x : List ℕ). key_of x (c.args.k % 2)) c.set_at-set.ensures) in
    -- an expanded key has its length
    let size : length c.expand_key.result.octets ≡ 176 = search rules in
    expanded_there _ _ _ _ _ _ _ c.requires.1 c.requires.0 size tested w c.copy_at.ensures
