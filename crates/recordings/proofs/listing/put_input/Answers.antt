-- `recordings::listing::put_input` meets its contract: what is read of the input is its LLID and its two blocks. Assumes nothing.
use mathlib.Core.Path.{◌≡◌, sym, ◌∙◌}
use mathlib.Core.List.{List}
use Prim.Native.Nat.{ℕ, ◌+◌, ◌≤◌, ◌<◌}
use native.Mathlib.Omega.{arith}
use lib.ListN.{length, drop, length-drop}
use lib.Seq.{take_all}
use borrow.Author.Tests.{lt-leb, le-leb}
use Rattle.octets.specs.Lists.{part}
use Rattle.octets.proofs.Choice.{pick_true, pick_false}
use Rattle.refusal.specs.declared.Refusal.TheVariants.{BadLength}
use Rattle.rows.specs.Text.{row_octets}
use Rattle.rows.specs.Entries.{denied_row}
use Rattle.rows.proofs.Texts.{line_put}
use Rattle.directory.proofs.Filling.{appended_as}
use Rattle.recordings.specs.Comparing.{output_octets, ruling_on}
use Rattle.recordings.specs.Listing.{head_octets, asked_llid, first_length, body_after, body_of}
use Rattle.recordings.proofs.listing.put_input.Goals as goal

-- input that ends too soon
no_blocks : (s : List ℕ) (n : ℕ) → n ≡ first_length s → length s < head_octets + n → body_of s ≡ denied_row BadLength 0
unfolding body_of
no_blocks s n e h = rw (← e) (pick_false _ _ (lt-leb _ _ h))

-- and input with both blocks
two_blocks : (s a b : List ℕ) (llid n : ℕ) → n ≡ first_length s → head_octets + n ≤ length s → llid ≡ asked_llid s
    → a ≡ part s head_octets n
    → b ≡ part s (head_octets + n) (length s) → body_after (ruling_on output_octets a b) llid a b ≡ body_of s
unfolding body_of
two_blocks s a b llid n e h l f g =
    let rest : part s (head_octets + n) (length s) ≡ drop (head_octets + n) s = take_all (length s) (drop (head_octets + n) s)
    (simp length-drop (omega arith)) in
    let second : b ≡ drop (head_octets + n) s = g ∙ rest in
    rw (f, second, l, e) (sym (pick_true _ _ (le-leb _ _ (rw e at h))))

pub returns-then-input-start : goal.returns-then-input-start
returns-then-input-start c =
    let q = line_put _ _ _ _ row_octets _ c.put_line.ensures c.denied_row.ensures.inside (omega (arith, c.requires)) in
    let e = no_blocks c.args.input.now _ c.number32-size.ensures c.if-input-start.true in
    let z = appended_as _ _ _ _ _ _ q (c.denied_row.ensures.octets ∙ sym e) (omega arith) in
    record { lower_bound = z.0; text_after = z.1.0; text_unchanged = z.1.1 }

pub returns : goal.returns
returns c =
    let whole = two_blocks c.args.input.now _ _ _ _ c.number32-size.ensures c.if-input-start.false in
    let e = whole c.number16-llid.ensures c.part_of-first.ensures c.part_of-second.ensures in
    let t = c.put_body.ensures in
    let z = appended_as _ _ _ _ _ _ (t.lower_bound, (t.text_after, t.text_unchanged)) e (omega arith) in
    record { lower_bound = z.0; text_after = z.1.0; text_unchanged = z.1.1 }
