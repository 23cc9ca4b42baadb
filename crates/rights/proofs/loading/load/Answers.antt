-- `rights::loading::load` meets its contract: a refused call leaves the sets, an accepted one puts the key into the set of its LLID. Assumes nothing.
use mathlib.Core.Path.{◌≡◌, sym, ap, ◌∙◌}
use Prim.Native.Nat.{ℕ}
use native.Mathlib.Omega.{arith}
use Rattle.std.proofs.lemmas.Result.{err_from_is_err_and}
use Rattle.octets.specs.Output.{with_output}
use Rattle.rights.specs.Loading.{load_verdict, loaded, loading_after, loading}
use Rattle.rights.proofs.Accepting.{loads, loads_one}
use Rattle.rights.proofs.loading.load.Goals as goal
use Rattle.refusal.specs.Verdict.{no_refusal}

pub returns-in_err-load_verdict : goal.returns-in_err-load_verdict
unfolding loading loading_after
returns-in_err-load_verdict c =
    let p = err_from_is_err_and c.from_residual.result c.from_residual.ensures.1 in
    let e = sym c.load_verdict.ensures ∙ c.in_err-load_verdict.was in
    record { sets_after = rw (p.1, p.2, e); loads_one = loads_one _ _ _ _ _ _ }

pub put_key-requires : goal.put_key-requires
put_key-requires c =
    let accepted : (let a = c.args in load_verdict a.caller a.sets.now a.rights.now a.llid a.index ≡ no_refusal) =
    sym c.load_verdict.ensures ∙ c.in_ok-load_verdict.was in
    let l = loads _ _ _ _ _ accepted in
    record { index_lt_settings_keys = (l.key, omega (arith, l.place, c.set_for-j.ensures)); present_value = c.presence-present.ensures ∙ rw c.set_at.ensures }

pub returns : goal.returns
unfolding loading loading_after
returns c =
    let accepted : (let a = c.args in load_verdict a.caller a.sets.now a.rights.now a.llid a.index ≡ no_refusal) =
    sym c.load_verdict.ensures ∙ c.in_ok-load_verdict.was in
    let a = c.args in record {
      sets_after = rw accepted
          (ap (with_output no_refusal)
          (c.put_key.ensures ∙ ap (λ (j : ℕ). loaded a.sets.now j a.index a.key.now) c.set_for-j.ensures));
      loads_one = loads_one _ _ _ _ _ _;
    }
