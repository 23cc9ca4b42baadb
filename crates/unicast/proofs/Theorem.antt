-- Whatever the list, the invariant holds after it, and with it the claim. Assumes nothing.
use mathlib.Core.List.{List, [], ◌∷◌}
use Rattle.unicast.specs.Setting.{Setting}
use Rattle.unicast.specs.Events.{Event, advance, register, capture, clock_send, offer, retry, send_down, send_up, arrive_down, arrive_up, arrive_answer, overhear, change_path, measure, new_time, stray_clock, stray_key, stray_answer, stray_down, stray_up}
use Rattle.unicast.specs.Run.{State, start, step, run}
use Rattle.unicast.specs.Premises.{Fresh, Fits, Meets}
use Rattle.unicast.specs.Claim.{Claim}
use Rattle.unicast.proofs.Invariant.{Invariant}
use Rattle.unicast.proofs.StartSteps.{start_right}
use Rattle.unicast.proofs.AdvanceSteps.{advance_right}
use Rattle.unicast.proofs.RegisterSteps.{register_right}
use Rattle.unicast.proofs.OltSteps.{capture_right, clock_send_right, retry_right, send_down_right, answer_right, stray_answer_right, stray_up_right}
use Rattle.unicast.proofs.OnuSteps.{send_up_right, arrive_down_right, overhear_right, stray_clock_right, stray_key_right, stray_down_right}
use Rattle.unicast.proofs.ChangeSteps.{change_path_right, measure_right, new_time_right}
use Rattle.unicast.proofs.Claims.{claim_holds}
use Rattle.unicast.proofs.OfferSteps.{offer_right}
use Rattle.unicast.proofs.ArrivalSteps.{arrive_up_right}

pub step_right : (w : Setting) (s : State) (e : Event) → Invariant w s → Fits w s e → Invariant w (step s e)
step_right w s (advance n) v f = advance_right w s n v
step_right w s (register u i trip interval) v f = register_right w s u i trip interval v f
step_right w s (capture llid) v f = capture_right w s llid v f
step_right w s (clock_send llid) v f = clock_send_right w s llid v f
step_right w s (offer llid key) v f = offer_right w s llid key v f
step_right w s (retry llid) v f = retry_right w s llid v f
step_right w s (send_down llid channel p out) v f = send_down_right w s llid channel p out v f
step_right w s (send_up u llid channel p out) v f = send_up_right w s u llid channel p out v f
step_right w s (arrive_down u k out) v f = arrive_down_right w s u k out v f
step_right w s (arrive_up u k out) v f = arrive_up_right w s u k out v f
step_right w s (arrive_answer u k llid) v f = answer_right w s u k llid v f
step_right w s (overhear u other k out) v f = overhear_right w s u other k out v f
step_right w s (change_path u llid time p) v f = change_path_right w s u llid time p v f
step_right w s (measure llid trip) v f = measure_right w s llid trip v f
step_right w s (new_time u time) v f = new_time_right w s u time v f
step_right w s (stray_clock u m) v f = stray_clock_right w s u m v f
step_right w s (stray_key u m) v f = stray_key_right w s u m v f
step_right w s (stray_answer llid a) v f = stray_answer_right w s llid a v f
step_right w s (stray_down u h p out) v f = stray_down_right w s u h p out v f
step_right w s (stray_up h p out) v f = stray_up_right w s h p out v f

pub run_right : (w : Setting) (s : State) (es : List Event) → Invariant w s → Meets w s es → Invariant w (run s es)
unfolding run
run_right w s [] v m = v
run_right w s (e ∷ es) v m = run_right w (step s e) es (step_right w s e v m.0) m.1

-- from fresh ends
pub line_holds : (w : Setting) (es : List Event) → Fresh w → Meets w (start w) es → Claim w (run (start w) es)
line_holds w es f m = claim_holds w (run (start w) es) (run_right w (start w) es (start_right w f) m)
