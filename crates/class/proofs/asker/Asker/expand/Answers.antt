-- `class::asker::Asker::expand` meets its contract. The loop's invariant: the keys before key k that are to be expanded are there, and
-- counted. Assumes nothing.
use mathlib.Core.Path.{◌≡◌, refl, sym, ap₂, ◌∙◌}
use Prim.Native.Nat.{ℕ, ◌+◌, ◌*◌}
use native.Mathlib.Omega.{arith}
use Rattle.octets.proofs.Lists.{sum_more}
use Rattle.class.specs.Opening.{expansions_for}
use Rattle.class.proofs.Expanding.{Counts, counts_few, one_expanded, none_expanded}
use Rattle.class.proofs.asker.Asker.expand.Goals as goal

pub loop-k-init : goal.loop-k-init
loop-k-init c = (c.requires.1, refl, none_expanded _ _ _ _)

pub expand_at-count-requires : goal.expand_at-count-requires
expand_at-count-requires c = (omega (arith, c.requires.0), c.loop-k.invariant.0)

pub overflow_add-count : goal.overflow_add-count
overflow_add-count c =
    let counts = Counts c.args.self.now.caller c.args.self.now.sets.now c.args.self.now.rights.now in
    let k = c.loop-k.k in
    record {
      fits = omega (
        arith,
        c.requires.0,
        c.loop-k.invariant.1,
        c.expand_at-count.ensures.told,
        sum_more counts k,
        counts_few c.args.self.now.caller c.args.self.now.sets.now c.args.self.now.rights.now (k + 1),
      );
    }

pub loop-k-preserved : goal.loop-k-preserved
loop-k-preserved c =
    let v = c.loop-k.invariant in
    let x = c.expand_at-count.ensures in (
      x.size ∙ v.0,
      ap₂ (λ (m n : ℕ). m + n) v.1 x.told
          ∙ sym (sum_more (Counts c.args.self.now.caller c.args.self.now.sets.now c.args.self.now.rights.now) c.loop-k.k),
      one_expanded _ _ _ _ _ _ _ v.2 x,
    )

pub returns : goal.returns
unfolding expansions_for
returns c =
    let v = c.loop-k.invariant in
    let end : c.loop-k.k ≡ 2 * c.args.self.now.caller.sets = omega arith in
    record { value = v.1 ∙ rw end; expanded = rw end at v.2 }
