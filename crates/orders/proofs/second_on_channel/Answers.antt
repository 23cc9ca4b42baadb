-- `orders::second_on_channel` meets its contract: the example is computed, and the laws are cited. Assumes nothing.
use mathlib.Core.Path.{sym, ◌∙◌}
use borrow.Author.Rules.{rules}
use Rattle.orders.proofs.Example.{demand}
use Rattle.orders.proofs.second_on_channel.Goals as goal

pub returns : goal.returns
returns c = record { value = c.from.ensures ∙ sym demand.example.one_channel.after_first; demand = demand }
