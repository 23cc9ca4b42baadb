-- `sealing::counter_mode::carry` meets its contract: the sealed payload, or the payload as it came. Assumes nothing.
use Rattle.std.specs.Prelude.{Ok}
use Prim.Native.Nat.{ℕ}
use Rattle.octets.specs.Output.{with_output}
use Rattle.envelope.proofs.Acceptance.{accepted, lengths_fit-holds, few_blocks}
use Rattle.envelope.specs.ControlMask.{count_enciphered, runs}
use Rattle.sealing.proofs.Seal.{sealing_done, sealing_clear}
use mathlib.Core.Path.{ap, ap₂, ◌∙◌}
use Rattle.sealing.proofs.counter_mode.carry.Goals as goal

pub seal_blocks-work-requires : goal.seal_blocks-work-requires
seal_blocks-work-requires c =
    let fit = (accepted _ _ _ c.requires).0 in
    record {
      subs_value = c.sbox_table-subs.ensures.entries;
      payload_len = (lengths_fit-holds _ _ fit).whole;
      payload_bound = (few_blocks _ _ fit).blocks;
    }

pub returns-then-enciphered : goal.returns-then-enciphered
returns-then-enciphered c =
    let a = c.args in
    let told = c.seal_blocks-work.ensures in
    ap₂ (λ (n r : ℕ). with_output (Ok (record { count = n; runs = r })) c.seal_blocks-work.new.payload) told.1 told.2
    ∙ ap (with_output (Ok (record { count = (count_enciphered a.payload.now); runs = (runs a.payload.now) }))) told.0
    ∙ sealing_done a.w.now a.nonce a.payload.now a.payload.now a.enciphered c.if-enciphered.true c.requires

pub returns : goal.returns
returns c =
    let a = c.args in
    sealing_clear a.w.now a.nonce a.payload.now a.payload.now a.enciphered c.if-enciphered.false c.requires
