-- `first_round::index_octet` meets its contract: the octet, under its key and substituted, moved to column k. Assumes nothing.
use mathlib.Core.Path.{refl}
use Rattle.cipher.proofs.FirstRound.{placed}
use Rattle.cipher.proofs.first_round.index_octet.Goals as goal

pub returns : goal.returns
returns c =
    let octet = c.keyed.ensures in (
      record { holds = λ e. placed c.args.k c.requires (octet.0.holds e) octet.1 },
      (placed c.args.k c.requires refl octet.1).below,
    )
