-- The premises as a test that computes: a list that passes it meets them. Assumes nothing.
use mathlib.Core.Path.{◌≡◌, refl, sym, ◌∙◌, ap}
use mathlib.Core.Bool.{Bool, true, false, not}
use mathlib.Core.List.{List, [], ◌∷◌, ◌++◌}
use mathlib.Core.Logic.{⊎_elim}
use Prim.Native.Nat.{ℕ, zero, suc, ◌+◌, ◌%◌, ◌<◌}
use native.Mathlib.Nat.{not-suc-le-zero}
use lib.Dec.{eqb, leb, ltb}
use lib.ListN.{length, get_or}
use borrow.Author.Tests.{ltb-true, leb-true, eqb-true, eqb-false, eq-eqb, not-true}
use Rattle.octets.specs.Choice.{both, either}
use Rattle.octets.specs.Lists.{same, all}
use Rattle.octets.proofs.Choice.{both_left, both_right, either_cases, true_false}
use Rattle.octets.proofs.Lists.{same_refl}
use Rattle.octets.proofs.Tests.{all_at}
use Rattle.clock.specs.Ticks.{local_turn}
use Rattle.ends.specs.Identities.{among, has, llids_of}
use Rattle.protocol.specs.OltCalls.{fresh_olt_of, register_of, measure_of, offer_of, acknowledge_of}
use Rattle.protocol.specs.OnuCalls.{fresh_onu_of, new_time_of, clock_message_at, key_message_at}
use Rattle.ends.specs.declared.Identity.{Identity}
use Rattle.traffic.specs.Sends.{onu_send_of}
use Rattle.traffic.specs.Receipts.{olt_receive_of, onu_receive_of}
use Rattle.unicast.specs.Setting.{Delays, Site, Setting}
use Rattle.unicast.specs.History.{InFlight, clock_message, key_message, envelope, left_at, Lane}
use Rattle.unicast.specs.Events.{Event, advance, register, capture, clock_send, offer, retry, send_down, send_up, arrive_down, arrive_up, arrive_answer, overhear, change_path, measure, new_time, stray_clock, stray_key, stray_answer, stray_down, stray_up}
use Rattle.unicast.specs.Run.{State, step, lane_at, onu_at, in_flight_at, envelope_at, answer_at, no_site, fresh_lane}
use Rattle.unicast.specs.Premises.{Fresh, Agrees, NewKey, FittingBuffer, DueDown, DueUp, DueAnswer, Changes, Overhears, Fits, Meets}

---- what binds accepted calls only

unfoldable pub if_accepted : ℕ → Bool → Bool
if_accepted number t = either (not (eqb number 0)) t

pub if_accepted-holds : (number : ℕ) (t : Bool) → if_accepted number t ≡ true → number ≡ 0 → t ≡ true
unfolding if_accepted either
if_accepted-holds number t h e = sym (ap (λ (x : Bool). either (not x) t) (eq-eqb number 0 e)) ∙ h

pub not_accepted : (number : ℕ) → not (eqb number 0) ≡ true → number ≡ 0 → ⊥
not_accepted number h = eqb-false number 0 (not-true (eqb number 0) h)

---- each premise

-- each number of one list is in the other
unfoldable pub alike : List ℕ → List ℕ → Bool
alike xs ys = both (all (λ x. among x ys) xs) (all (λ y. among y xs) ys)

all_among : (p : ℕ → Bool) (xs : List ℕ) (x : ℕ) → all p xs ≡ true → among x xs ≡ true → p x ≡ true
unfolding all among
all_among p [] x e m = true_false (sym m)
all_among p (y ∷ xs) x e m =
    ⊎_elim (λ h. ap p (sym (eqb-true y x h)) ∙ both_left _ _ e) (λ h. all_among p xs x (both_right _ _ e) h) (either_cases (eqb y x) (among x xs) m)

alike_true : (xs ys : List ℕ) → alike xs ys ≡ true → (x : ℕ) → among x xs ≡ among x ys
unfolding alike
alike_true xs ys e x =
    by_cases (among x xs) (among x ys) (all_among _ xs x (both_left _ _ e)) (all_among _ ys x (both_right _ _ e)) where
      by_cases : (a b : Bool) → (a ≡ true → b ≡ true) → (b ≡ true → a ≡ true) → a ≡ b
      by_cases true b f g = sym (f refl)
      by_cases false true f g = g refl
      by_cases false false f g = refl

unfoldable pub agrees : Setting → State → ℕ → Identity → ℕ → Bool
agrees w s u i trip =
    both (ltb u (length s.history.lanes))
    (both (eqb i.mac (lane_at s u).site.identity.mac)
    (both (alike (llids_of i) (llids_of (lane_at s u).site.identity))
    (both (eqb (lane_at s u).site.oltmac w.mac)
    (both (eqb (lane_at s u).site.time ((w.first + (lane_at s u).path.up) % local_turn))
    (eqb trip ((lane_at s u).path.up + (lane_at s u).path.down))))))

pub agrees_true : (w : Setting) (s : State) (u : ℕ) (i : Identity) (trip : ℕ) → agrees w s u i trip ≡ true → Agrees w s u i trip
unfolding agrees has
agrees_true w s u i trip e = search (both_left, both_right, ltb-true, eqb-true, alike_true)

unfoldable pub other : List ℕ → List ℕ → Bool
other key k = not (same k key)

-- of units, or of whatever has offers
unfoldable pub unused : {A : Type 0} → (A → List (List ℕ)) → List ℕ → List A → Bool
unused offers key [] = true
unused offers key (x ∷ xs) = both (all (other key) (offers x)) (unused offers key xs)

other_true : (key k : List ℕ) → other key k ≡ true → k ≡ key → ⊥
unfolding other
other_true key k h e = true_false (sym (same_refl k) ∙ ap (λ (x : List ℕ). same k x) e ∙ not-true _ h)

-- past the list is one that has none
pub unused_at : {A : Type 0} (offers : A → List (List ℕ)) (past : A) → offers past ≡ [] → (key : List ℕ) (xs : List A)
    → unused offers key xs ≡ true
    → (u n : ℕ) → n < length (offers (get_or xs u past)) → get_or (offers (get_or xs u past)) n [] ≡ key → ⊥
unfolding unused
unused_at offers past none key [] e u n h = λ _. not-suc-le-zero (rw none at h)
unused_at offers past none key (x ∷ xs) e zero n h = other_true key _ (all_at (other key) (offers x) n [] (both_left _ _ e) h)
unused_at offers past none key (x ∷ xs) e (suc u) n h = unused_at offers past none key xs (both_right _ _ e) u n h

abbrev pub lane_offers : Lane → List (List ℕ)
lane_offers l = l.keys.offers

pub new_key-holds : (s : State) (key : List ℕ) → unused lane_offers key s.history.lanes ≡ true → NewKey s key
unfolding fresh_lane
new_key-holds s key e = record { unused = unused_at lane_offers (fresh_lane no_site) refl key s.history.lanes e }

unfoldable pub fitting : InFlight → List ℕ → Bool
fitting (clock_message m c t) out = true
fitting (key_message m t) out = true
fitting (envelope e) out = eqb (length out) (length e.octets)

pub fitting_true : (x : InFlight) (out : List ℕ) → fitting x out ≡ true → FittingBuffer x out
unfolding fitting
fitting_true (clock_message m c t) out e = tt
fitting_true (key_message m t) out e = tt
fitting_true (envelope x) out e = eqb-true _ _ e

unfoldable pub due_down : State → ℕ → ℕ → List ℕ → Bool
due_down s u k out =
    both (ltb k (length (lane_at s u).transit.towards))
    (both (eqb (left_at (in_flight_at s u k) + (lane_at s u).path.down) s.history.now) (fitting (in_flight_at s u k) out))

pub due_down_true : (s : State) (u k : ℕ) (out : List ℕ) → due_down s u k out ≡ true → DueDown s u k out
unfolding due_down
due_down_true s u k out e = search (both_left, both_right, ltb-true, eqb-true, fitting_true)

unfoldable pub due_up : State → ℕ → ℕ → List ℕ → Bool
due_up s u k out =
    both (ltb k (length (lane_at s u).transit.from))
    (both (eqb ((envelope_at s u k).left + (lane_at s u).path.up) s.history.now) (eqb (length out) (length (envelope_at s u k).octets)))

pub due_up_true : (s : State) (u k : ℕ) (out : List ℕ) → due_up s u k out ≡ true → DueUp s u k out
unfolding due_up
due_up_true s u k out e = search (both_left, both_right, ltb-true, eqb-true)

unfoldable pub due_answer : State → ℕ → ℕ → ℕ → Bool
due_answer s u k llid =
    both (ltb k (length (lane_at s u).transit.answered))
    (both (leb ((answer_at s u k).tick + (lane_at s u).path.up) s.history.now) (has (lane_at s u).site.identity llid))

pub due_answer_true : (s : State) (u k llid : ℕ) → due_answer s u k llid ≡ true → DueAnswer s u k llid
unfolding due_answer
due_answer_true s u k llid e = search (both_left, both_right, ltb-true, leb-true)

unfoldable pub overhears : State → ℕ → ℕ → ℕ → Bool
overhears s u v k =
    both (lane_at s u).entry.registered (both (not (eqb u v)) (ltb k (length (lane_at s v).past.sent)))

pub overhears_true : (s : State) (u v k : ℕ) → overhears s u v k ≡ true → Overhears s u v k
unfolding overhears
overhears_true s u v k e = search (both_left, both_right, ltb-true, eqb-false, not-true)

unfoldable pub changes : Setting → State → ℕ → ℕ → ℕ → Delays → Bool
changes w s u llid time p =
    both (lane_at s u).entry.registered
    (both (has (lane_at s u).site.identity llid)
    (both (eqb (measure_of s.olt llid (p.up + p.down)).number 0)
    (both (eqb (new_time_of (onu_at s u) time).number 0) (eqb time ((w.first + s.history.now + p.up) % local_turn)))))

changes_true : (w : Setting) (s : State) (u llid time : ℕ) (p : Delays) → changes w s u llid time p ≡ true → Changes w s u llid time p
unfolding changes
changes_true w s u llid time p e = search (both_left, both_right, eqb-true)

unfoldable pub fresh_site : Site → Bool
fresh_site s = eqb (fresh_onu_of s.identity s.oltmac s.time).number 0

unfoldable pub fresh : Setting → Bool
fresh w = both (eqb (fresh_olt_of w.mac w.first).number 0) (all fresh_site w.sites)

pub fresh_true : (w : Setting) → fresh w ≡ true → Fresh w
unfolding fresh fresh_site
fresh_true w e =
    record { olt = eqb-true _ _ (both_left _ _ e); onus = λ u s h. eqb-true _ _ (all_at fresh_site w.sites u s (both_right _ _ e) h) }

---- an event, and a list

unfoldable pub fits : Setting → State → Event → Bool
fits w s (advance n) = true
fits w s (register u i trip interval) = if_accepted (register_of s.olt i trip interval).number (agrees w s u i trip)
fits w s (capture llid) = true
fits w s (clock_send llid) = true
fits w s (offer llid key) = if_accepted (offer_of s.olt llid key).number (unused lane_offers key s.history.lanes)
fits w s (retry llid) = true
fits w s (send_down llid channel p out) = true
fits w s (send_up u llid channel p out) =
    if_accepted (onu_send_of (onu_at s u) llid channel p out).answer.number (lane_at s u).entry.registered
fits w s (arrive_down u k out) = due_down s u k out
fits w s (arrive_up u k out) = due_up s u k out
fits w s (arrive_answer u k llid) = due_answer s u k llid
fits w s (overhear u v k out) = overhears s u v k
fits w s (change_path u llid time p) = changes w s u llid time p
fits w s (measure llid trip) = not (eqb (measure_of s.olt llid trip).number 0)
fits w s (new_time u time) = not (eqb (new_time_of (onu_at s u) time).number 0)
fits w s (stray_clock u m) = not (eqb (clock_message_at (onu_at s u) m).number 0)
fits w s (stray_key u m) = not (eqb (key_message_at (onu_at s u) m).number 0)
fits w s (stray_answer llid a) = not (eqb (acknowledge_of s.olt llid a).number 0)
fits w s (stray_down u h p out) = not (eqb (onu_receive_of (onu_at s u) h p out).answer.number 0)
fits w s (stray_up h p out) = not (eqb (olt_receive_of s.olt h p out).answer.number 0)

fits_true : (w : Setting) (s : State) (e : Event) → fits w s e ≡ true → Fits w s e
unfolding fits
fits_true w s (advance n) h = tt
fits_true w s (register u i trip interval) h = λ a. agrees_true w s u i trip (if_accepted-holds _ _ h a)
fits_true w s (capture llid) h = tt
fits_true w s (clock_send llid) h = tt
fits_true w s (offer llid key) h = λ a. new_key-holds s key (if_accepted-holds _ _ h a)
fits_true w s (retry llid) h = tt
fits_true w s (send_down llid channel p out) h = tt
fits_true w s (send_up u llid channel p out) h = if_accepted-holds _ _ h
fits_true w s (arrive_down u k out) h = due_down_true s u k out h
fits_true w s (arrive_up u k out) h = due_up_true s u k out h
fits_true w s (arrive_answer u k llid) h = due_answer_true s u k llid h
fits_true w s (overhear u v k out) h = overhears_true s u v k h
fits_true w s (change_path u llid time p) h = changes_true w s u llid time p h
fits_true w s (measure llid trip) h = not_accepted _ h
fits_true w s (new_time u time) h = not_accepted _ h
fits_true w s (stray_clock u m) h = not_accepted _ h
fits_true w s (stray_key u m) h = not_accepted _ h
fits_true w s (stray_answer llid a) h = not_accepted _ h
fits_true w s (stray_down u x p out) h = not_accepted _ h
fits_true w s (stray_up x p out) h = not_accepted _ h

unfoldable pub meets : Setting → State → List Event → Bool
meets w s [] = true
meets w s (e ∷ es) = both (fits w s e) (meets w (step s e) es)

pub meets_true : (w : Setting) (s : State) (es : List Event) → meets w s es ≡ true → Meets w s es
unfolding meets
meets_true w s [] h = tt
meets_true w s (e ∷ es) h = (fits_true w s e (both_left _ _ h), meets_true w (step s e) es (both_right _ _ h))

-- what a list meets, each start of it does
pub meets_start : (w : Setting) (s : State) (es rest : List Event) → Meets w s (es ++ rest) → Meets w s es
meets_start w s [] rest m = tt
meets_start w s (e ∷ es) rest m = (m.0, meets_start w (step s e) es rest m.1)

-- to compute the test
unfoldable pub tested : Unit {0}
unfolding if_accepted alike agrees other unused fitting due_down due_up due_answer overhears changes fresh_site fresh fits meets
tested = tt
