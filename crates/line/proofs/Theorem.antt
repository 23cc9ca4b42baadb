-- Whatever the list, groups included, the invariant holds after it, and with it the claim. Assumes nothing.
use Rattle.std.specs.Prelude.{Option, Some, None}
use mathlib.Core.Path.{◌≡◌, refl}
use mathlib.Core.List.{List, [], ◌∷◌}
use Prim.Native.Nat.{ℕ}
use Rattle.group_protocol.specs.Head.{find_group}
use Rattle.unicast.specs.Setting.{Setting}
use Rattle.unicast.specs.Premises.{Fresh}
use Rattle.line.specs.Events.{Event, advance, register, register_group, capture, clock_send, offer, retry, send_down, join, send_up, arrive_down, arrive_group, arrive_up, arrive_answer, arrive_group_answer, overhear, overhear_group, change_path, measure, new_time, stray_clock, stray_key, stray_answer, stray_down, stray_up}
use Rattle.line.specs.Run.{State, start, step, runs}
use Rattle.line.specs.Premises.{Fits, Meets}
use Rattle.line.specs.Claim.{Claim}
use Rattle.line.proofs.Invariant.{Invariant}
use Rattle.line.proofs.Claims.{claim_holds}
use Rattle.line.proofs.StartSteps.{start_right}
use Rattle.line.proofs.AdvanceSteps.{advance_right}
use Rattle.line.proofs.RegisterSteps.{register_right}
use Rattle.line.proofs.GroupRegisterSteps.{register_group_right}
use Rattle.line.proofs.OltSteps.{capture_right, clock_send_right, unit_retry_right, unit_send_right, answer_right}
use Rattle.line.proofs.OfferSteps.{unit_offer_right}
use Rattle.line.proofs.GroupKeySteps.{group_offer_right, group_retry_right}
use Rattle.line.proofs.GroupSendSteps.{group_send_right}
use Rattle.line.proofs.JoinSteps.{join_right}
use Rattle.line.proofs.OnuSteps.{send_up_right, arrive_down_right}
use Rattle.line.proofs.GroupArrivalSteps.{arrive_group_right}
use Rattle.line.proofs.ArrivalSteps.{arrive_up_right}
use Rattle.line.proofs.AnswerSteps.{group_acknowledged_right, stray_answer_right, stray_up_right}
use Rattle.line.proofs.OverheardSteps.{overhear_right, overhear_group_right}
use Rattle.line.proofs.ChangeSteps.{change_path_right, measure_right, new_time_right}
use Rattle.line.proofs.StraySteps.{stray_clock_right, stray_key_right, stray_down_right}

---- calls of the OLT, by whom the LLID means

offer_right : (w : Setting) (s : State) (llid : ℕ) (key : List ℕ) → Invariant w s → Fits w s (offer llid key) → Invariant w (step s (offer llid key))
offer_right w s llid key i f = by_found (find_group s.head llid) refl where
  by_found : (x : Option ℕ) → find_group s.head llid ≡ x → Invariant w (step s (offer llid key))
  by_found None e = unit_offer_right w s llid key i e f
  by_found (Some g) e = group_offer_right w s llid g key i e f

retry_right : (w : Setting) (s : State) (llid : ℕ) → Invariant w s → Invariant w (step s (retry llid))
retry_right w s llid i = by_found (find_group s.head llid) refl where
  by_found : (x : Option ℕ) → find_group s.head llid ≡ x → Invariant w (step s (retry llid))
  by_found None e = unit_retry_right w s llid i e
  by_found (Some g) e = group_retry_right w s llid g i e

send_down_right : (w : Setting) (s : State) (llid channel : ℕ) (p out : List ℕ) → Invariant w s → Invariant w (step s (send_down llid channel p out))
send_down_right w s llid channel p out i = by_found (find_group s.head llid) refl where
  by_found : (x : Option ℕ) → find_group s.head llid ≡ x → Invariant w (step s (send_down llid channel p out))
  by_found None e = unit_send_right w s llid i e channel p out
  by_found (Some g) e = group_send_right w s llid g channel p out i e

---- every event

pub step_right : (w : Setting) (s : State) (e : Event) → Invariant w s → Fits w s e → Invariant w (step s e)
step_right w s (advance n) i f = advance_right w s n i
step_right w s (register u x trip interval) i f = register_right w s u x trip interval i f
step_right w s (register_group llid interval r) i f = register_group_right w s llid interval r i
step_right w s (capture llid) i f = capture_right w s llid i
step_right w s (clock_send llid) i f = clock_send_right w s llid i
step_right w s (offer llid key) i f = offer_right w s llid key i f
step_right w s (retry llid) i f = retry_right w s llid i
step_right w s (send_down llid channel p out) i f = send_down_right w s llid channel p out i
step_right w s (join u llid) i f = join_right w s u llid i
step_right w s (send_up u llid channel p out) i f = send_up_right w s u llid channel p out i f
step_right w s (arrive_down u k out) i f = arrive_down_right w s u k out i f
step_right w s (arrive_group u g k out) i f = arrive_group_right w s u g k out i f
step_right w s (arrive_up u k out) i f = arrive_up_right w s u k out i f
step_right w s (arrive_answer u k llid) i f = answer_right w s u k llid i f
step_right w s (arrive_group_answer g k) i f = group_acknowledged_right w s g k i f
step_right w s (overhear u other k out) i f = overhear_right w s u other k out i f
step_right w s (overhear_group u g k out) i f = overhear_group_right w s u g k out i f
step_right w s (change_path u llid time p) i f = change_path_right w s u llid time p i f
step_right w s (measure llid trip) i f = measure_right w s llid trip i f
step_right w s (new_time u time) i f = new_time_right w s u time i f
step_right w s (stray_clock u m) i f = stray_clock_right w s u m i f
step_right w s (stray_key u m) i f = stray_key_right w s u m i f
step_right w s (stray_answer llid a) i f = stray_answer_right w s llid a i f
step_right w s (stray_down u h p out) i f = stray_down_right w s u h p out i f
step_right w s (stray_up h p out) i f = stray_up_right w s h p out i f

pub run_right : (w : Setting) (s : State) (es : List Event) → Invariant w s → Meets w s es → Invariant w (runs s es)
unfolding runs
run_right w s [] i m = i
run_right w s (e ∷ es) i m = run_right w (step s e) es (step_right w s e i m.0) m.1

-- from fresh ends
pub line_holds : (w : Setting) (es : List Event) → Fresh w → Meets w (start w) es → Claim w (runs (start w) es)
line_holds w es f m = claim_holds w (runs (start w) es) (run_right w (start w) es (start_right w f) m)
