-- `recordings::compare::write_entries` meets its contract: the entries of a, then those of b that are alone, and both counts. Assumes nothing.
use mathlib.Core.Path.{◌≡◌, sym, ◌∙◌}
use lib.ListN.{length}
use Rattle.recordings.specs.Comparing.{entries_of, compared_after}
use Rattle.recordings.proofs.Entries.{entries_length, all_written}
use Rattle.recordings.proofs.compare.write_entries.Goals as goal

pub returns : goal.returns
unfolding compared_after
returns c =
    let a = c.args.a.now in
    let b = c.args.b.now in
    let first = c.match_up.ensures.first in
    let second = c.match_up.ensures.second in
    let marks = rw (first.0, first.1) at c.put_marks.ensures in
    let end = rw (c.count.ensures, second.0, second.1) at c.put_alones-end.ensures.value in
    let after = rw (c.count.ensures, second.0, second.1) at c.put_alones-end.ensures.output_after in
    let e : c.put_alones-end.result ≡ length (entries_of a b) = end ∙ sym (entries_length a b) in
    let o = all_written a b _ _ _ _ marks end after c.put_alones-end.ensures.output_unchanged.0 in
    let ones = rw (first.0, first.1) at c.count_alone.ensures.0 in
    let others = rw (second.0, second.1) at c.count_alone-2.ensures.0 in
    rw (o, e, ones, others)
