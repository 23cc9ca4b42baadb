-- The bounds name the payload.
use Rattle.directory.proofs.Records.{part_named}
use Rattle.jazmotip.proofs.blocks.jazmotip_capture_payload.Goals as goal

pub returns-clause-length_in_bounds : goal.returns-clause-length_in_bounds
returns-clause-length_in_bounds c = rw (c.part_in_numbers.ensures, c.locate.ensures) (part_named c.args.block.now c.args.k).0

pub returns-clause-length_value : goal.returns-clause-length_value
returns-clause-length_value c = rw (c.part_in_numbers.ensures, c.locate.ensures) (part_named c.args.block.now c.args.k).1
