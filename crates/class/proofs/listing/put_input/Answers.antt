-- `class::listing::put_input` meets its contract: the input's parts are those of the definition. Assumes nothing.
use mathlib.Core.Path.{sym, ◌∙◌}
use Prim.Native.Nat.{◌<◌}
use native.Mathlib.Omega.{arith}
use lib.ListN.{length}
use borrow.Author.Rules.{rules}
use borrow.Author.Tests.{lt-ltb, le-ltb}
use Rattle.octets.proofs.Choice.{pick_true, pick_false}
use Rattle.refusal.specs.declared.Refusal.TheVariants.{BadLength}
use Rattle.rows.proofs.Lines.{refused_row_few}
use Rattle.rows.proofs.Texts.{line_put}
use Rattle.directory.proofs.Filling.{appended_as}
use Rattle.reading.specs.Listing.{line_octets, body_octets}
use Rattle.rights.proofs.Sets.{product_below}
use Rattle.class.specs.Input.{input_body}
use Rattle.class.proofs.Texts.{input_parts}
use Rattle.class.proofs.listing.put_input.Goals as goal

pub returns-then-input-lt-CALLER_OCTETS : goal.returns-then-input-lt-CALLER_OCTETS
unfolding input_body
returns-then-input-lt-CALLER_OCTETS c =
    let few = refused_row_few BadLength in
    let q = line_put _ _ _ _ line_octets _ c.put_line.ensures (omega (arith, c.refused_row.ensures.used, few)) (omega arith) in
    let short = pick_true {t = _} _ _ (lt-ltb (length c.args.input.now) 3 c.if-input-lt-CALLER_OCTETS.true) in
    let z = appended_as _ _ _ _ line_octets body_octets q (c.refused_row.ensures.octets ∙ sym short) (omega arith) in
    record { lower_bound = z.0; text_after = z.1.0; text_unchanged = z.1.1 }

pub overflow_mul-size : goal.overflow_mul-size
overflow_mul-size c =
    record { fits = omega (arith, product_below c.octet_at.result c.octet_at-2.result (search rules) (search rules)) }

pub overflow_add-start-2 : goal.overflow_add-start-2
overflow_add-start-2 c =
    let n = c.octet_at.result in
    let m = c.octet_at-2.result in
    let few : n < 256 = search rules in
    record { fits = omega (arith, product_below n m few (search rules)) }

pub returns : goal.returns
unfolding input_body
returns c =
    let q = c.put_body_for.ensures in
    let parts =
    input_parts c.args.input.now _ _ _ _ _ _ c.octet_at.ensures c.octet_at-2.ensures c.octet_at-3.ensures
    c.part_of.ensures c.part_of-2.ensures c.part_of-block.ensures in
    let long = pick_false {t = _} _ _ (le-ltb (length c.args.input.now) 3 c.if-input-lt-CALLER_OCTETS.false) in
    let z = appended_as _ _ _ _ body_octets body_octets (q.lower_bound, (q.text_after, q.text_unchanged)) (parts ∙ sym long) (omega arith) in
    record { lower_bound = z.0; text_after = z.1.0; text_unchanged = z.1.1 }
