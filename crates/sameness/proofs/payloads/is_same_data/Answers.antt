-- `sameness::payloads::is_same_data` meets its contract. Assumes nothing.
use Rattle.std.proofs.Common.{◌≡◌, List, ℕ, sym, ◌∙◌, arith, rules}
use Rattle.std.proofs.lemmas.Iterator.{YieldsList-from_range}
use Rattle.std.proofs.lemmas.Iterator.Search.{all_from_yields_List}
use borrow.Author.Tests.{tests, eq-eqb}
use Rattle.octets.specs.Choice.{both}
use Rattle.octets.specs.Each.{each}
use Rattle.records.specs.declared.header.Header.{Header}
use Rattle.records.specs.Record.{record_header, payload_of}
use Rattle.sameness.specs.Sameness.{same_eq, same_data}
use Rattle.octets.proofs.Chains.{each_of_range}
use Rattle.sameness.proofs.payloads.is_same_data.Goals as goal

-- EQ counts that agree
all_eqs : (g h : Header) (r s p q : List ℕ) → g ≡ record_header r → h ≡ record_header s → p ≡ payload_of r → q ≡ payload_of s
    → g.eqs ≡ h.eqs
    → same_data r s ≡ each 0 g.eqs (same_eq p q)
unfolding same_data both
all_eqs g h r s p q x y u v e = rw (← x, ← y, ← u, ← v, eq-eqb g.eqs h.eqs e)

pub returns : goal.returns
returns c =
    let eqs = c.header_at-eqs.result.eqs in
    all_from_yields_List (same_eq c.payload_at-p.result.now c.payload_at-q.result.now) _ _ _ c.all.ensures.ran
    (YieldsList-from_range 0 eqs eqs (cc) (omega arith)) (λ x b q k. search (rules, tests))
    ∙ each_of_range _ _ _
    ∙ sym (all_eqs _ _ _ _ _ _ c.header_at-eqs.ensures.value c.header_at.ensures.value c.payload_at-p.ensures c.payload_at-q.ensures c.if-eqs-header_at.false)
