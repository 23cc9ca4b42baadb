-- `ends::check_olt::added` meets its contract: the first j of the LLIDs stand behind those before, no LLID twice, and the marks tell of them all.
-- Assumes nothing.
use Rattle.std.proofs.Common.{◌≡◌, ◌+◌, ◌<◌, ◌≤◌, ◌++◌, length, take, get_or, sym, ◌∙◌, arith, rules, length-set, length-take-le, take_all}
use Rattle.ends.specs.Identities.{llids_of}
use Rattle.ends.proofs.Identities.{distinct_more}
use Rattle.ends.proofs.Marks.{marked_step}
use Rattle.ends.proofs.Walks.{llids_taken, take_more, taken_again, taken_more}
use Rattle.ends.proofs.check_olt.added.Goals as goal

pub returns-then-stands-clause-value : goal.returns-then-stands-clause-value
returns-then-stands-clause-value c =
    let i = c.args.identity in
    let few : i.count ≤ length i.llids = search rules in
    let len = length-take-le i.count i.llids few in
    rw (llids_taken i few)
    (sym (taken_again _ _ (take i.count i.llids) c.loop-j.j c.loop-j.invariant.2 (omega arith) (sym c.stands.ensures ∙ c.if-stands.true)))

pub loop-j-preserved : goal.loop-j-preserved
loop-j-preserved c =
    let i = c.args.identity in
    let here = c.loop-j in
    let v = here.invariant in
    let n = c.args.n in
    let x = get_or (take i.count i.llids) here.j 0 in
    let few : i.count ≤ length i.llids = search rules in
    let len = length-take-le i.count i.llids few in
    let low : n + here.j < length here.list = omega (arith, v.0) in (
      simp length-set v.0,
      simp length-set v.1,
      taken_more (take n c.args.list.now) here.list (take i.count i.llids) n here.j v.2 low (omega arith),
      rw (take_more here.list n here.j x low) (distinct_more _ x v.3 (sym c.stands.ensures ∙ c.if-stands.false)),
      marked_step here.list here.marks n here.j x _ _ low (omega arith) c.mark_place-m.ensures c.next_mark.ensures v.4,
    )

pub returns : goal.returns
returns c =
    let i = c.args.identity in
    let here = c.loop-j in
    let v = here.invariant in
    let few : i.count ≤ length i.llids = search rules in
    let len = length-take-le i.count i.llids few in
    let end : here.j ≡ i.count = omega arith in
    let all : take (c.args.n + i.count) here.list ≡ take c.args.n c.args.list.now ++ llids_of i =
    rw (llids_taken i few) (rw (end, take_all i.count (take i.count i.llids) (omega arith)) at v.2) in
    record { value = sym (rw (end, all) at v.3); list_after = λ z. all; marked_2 = λ z. rw end at v.4 }
