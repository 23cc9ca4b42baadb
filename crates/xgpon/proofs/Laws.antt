-- The laws of the key exchange: those on runs from what a run keeps, those on one step row by row. Assumes nothing.
use mathlib.Core.Bool.{Bool, true, false}
use mathlib.Core.List.{List, [], ◌∷◌, ◌++◌}
use mathlib.Core.Logic.{⊎_elim}
use mathlib.Core.Path.{◌≡◌, refl, sym, ap}
use Prim.Native.Nat.{ℕ}
use Rattle.std.specs.Prelude.{Option, Some, None}
use native.Mathlib.Omega.{arith}
use lib.Dec.{eqb}
use lib.ListN.{take}
use Rattle.xgpon.specs.Answers.{answer_if, generate_kind}
use Rattle.xgpon.specs.Keys.{received_under, sent_under, valid_keys}
use Rattle.xgpon.specs.Laws.{Among, Asking, Laws, after, again, anew, begun}
use Rattle.xgpon.specs.Moves.{in_kl1, in_kl2, in_kl3, move_in}
use Rattle.xgpon.specs.Run.{Past, played}
use Rattle.xgpon.specs.Values.{no_key, state_of}
use Rattle.xgpon.specs.declared.answers.Answer.{Answer}
use Rattle.xgpon.specs.declared.answers.KeyControl.{KeyControl}
use Rattle.xgpon.specs.declared.moves.Input.{Input}
use Rattle.xgpon.specs.declared.moves.Input.TheVariants.{NewKey, ExistingKey, Tk1Expires, Tk2Expires, Tk3Expires, Begin, BeginToSend, Rekey, KeyCheck}
use Rattle.xgpon.specs.declared.values.KeyExchange.{KeyExchange}
use Rattle.xgpon.specs.declared.values.State.{State}
use Rattle.xgpon.specs.declared.values.State.TheVariants.{KL0, KL1, KL2, KL3, KL4}
use Rattle.xgpon.proofs.Pairs.{Pair, Valued, activated, confirming, first, knowing, none, pair_apart, pair_fits, requesting, second, third, valued}
use Rattle.xgpon.proofs.Sound.{Held, Sound, active, confirm, held_none, inactive, played_sound, request, start_sound, step_kept, waiting}

-- a valid key was reported, where both of those named were
among_held : {k : ℕ → Bool} {o n i : ℕ} → Held k o → Held k n → Among (valid_keys o n) i → k i ≡ true
among_held {i = i} h g a = ⊎_elim (λ e. rw e (h.known (rw (sym e) a.index))) (λ e. rw e (g.known (rw (sym e) a.index))) a.one

sent_reported : {p : Past} (i : ℕ) → Sound p → Among (sent_under p.exchange) i → p.reported i ≡ true
sent_reported i (inactive k) a = among_held {k = k} held_none held_none a
sent_reported i (request k pair h) a = among_held h held_none (rw (pair_fits pair) at a)
sent_reported i (confirm k pair h g) a = among_held h g (rw (pair_fits pair) at a)
sent_reported i (waiting k pair h g) a = among_held held_none g (rw (pair_fits pair) at a)
sent_reported i (active k pair g) a = among_held held_none g (rw (pair_fits pair) at a)

received_reported : {p : Past} (i : ℕ) → Sound p → Among (received_under p.exchange) i → p.reported i ≡ true
received_reported i (inactive k) a = among_held {k = k} held_none held_none a
received_reported i (request k pair h) a = among_held h held_none (rw (pair_fits pair) at a)
received_reported i (confirm k pair h g) a = among_held h held_none (rw (pair_fits pair) at a)
received_reported i (waiting k pair h g) a = among_held h g (rw (pair_fits pair) at a)
received_reported i (active k pair g) a = among_held held_none g (rw (pair_fits pair) at a)

sound_inside : {p : Past} → Sound p → state_of p.exchange ≡ None → ⊥
sound_inside (inactive k) e = cc
sound_inside (request k pair h) e = let f = rw (pair_fits pair) at e in cc
sound_inside (confirm k pair h g) e = let f = rw (pair_fits pair) at e in cc
sound_inside (waiting k pair h g) e = let f = rw (pair_fits pair) at e in cc
sound_inside (active k pair g) e = let f = rw (pair_fits pair) at e in cc

-- whichever index a report names, its answer sends nothing
mute : (b : Bool) (a c : Answer) → a.message.kind ≡ 0 → c.message.kind ≡ 0 → (answer_if b a c).message.kind ≡ 0
mute true a c f g = f
mute false a c f g = g

asks_kl1 : (x : KeyExchange) (input : Input) → (in_kl1 x input).message.kind ≡ generate_kind → Asking x (in_kl1 x input) (Some KL1)
asks_kl1 x (NewKey i) e = let m : (in_kl1 x (NewKey i)).message.kind ≡ 0 = mute (eqb i x.newkey) _ _ refl refl in absurd (omega arith)
asks_kl1 x (ExistingKey i) e = let m : (in_kl1 x (ExistingKey i)).message.kind ≡ 0 = mute (eqb i x.newkey) _ _ refl refl in absurd (omega arith)
asks_kl1 x Tk1Expires e = again refl
asks_kl1 x Tk2Expires e = again refl
asks_kl1 x Tk3Expires e = absurd (omega arith)
asks_kl1 x Begin e = absurd (omega arith)
asks_kl1 x BeginToSend e = absurd (omega arith)
asks_kl1 x Rekey e = absurd (omega arith)
asks_kl1 x KeyCheck e = absurd (omega arith)

asks_kl2 : (x : KeyExchange) (input : Input) → (in_kl2 x input).message.kind ≡ generate_kind → ⊥
asks_kl2 x (NewKey i) e = omega arith
asks_kl2 x (ExistingKey i) e = omega arith
asks_kl2 x Tk1Expires e = omega arith
asks_kl2 x Tk2Expires e = omega arith
asks_kl2 x Tk3Expires e = omega arith
asks_kl2 x Begin e = omega arith
asks_kl2 x BeginToSend e = omega arith
asks_kl2 x Rekey e = omega arith
asks_kl2 x KeyCheck e = omega arith

asks_kl3 : (x : KeyExchange) (input : Input) → (in_kl3 x input).message.kind ≡ generate_kind → ⊥
asks_kl3 x (NewKey i) e = let m : (in_kl3 x (NewKey i)).message.kind ≡ 0 = mute (eqb i x.newkey) _ _ refl refl in omega arith
asks_kl3 x (ExistingKey i) e = let m : (in_kl3 x (ExistingKey i)).message.kind ≡ 0 = mute (eqb i x.newkey) _ _ refl refl in omega arith
asks_kl3 x Tk1Expires e = omega arith
asks_kl3 x Tk2Expires e = omega arith
asks_kl3 x Tk3Expires e = omega arith
asks_kl3 x Begin e = omega arith
asks_kl3 x BeginToSend e = omega arith
asks_kl3 x Rekey e = omega arith
asks_kl3 x KeyCheck e = omega arith

asks : (x : KeyExchange) (input : Input) (s : Option State) → (move_in s x input).message.kind ≡ generate_kind → Asking x (move_in s x input) s
asks x input (Some KL0) e = begun
asks x input (Some KL1) e = asks_kl1 x input e
asks x input (Some KL2) e = absurd (asks_kl2 x input e)
asks x input (Some KL3) e = absurd (asks_kl3 x input e)
asks x input (Some KL4) e = anew
asks x input None e = absurd (omega arith)

-- the old key, if there is one, is not the new one
old_apart : {o n : ℕ} → Pair o n → Among (valid_keys no_key n) o → ⊥
old_apart pair a = ⊎_elim (λ e. omega (arith, a.index)) (λ e. pair_apart pair e) a.one

old_invalid : {x : KeyExchange} → Valued x → Among (valid_keys no_key x.newkey) x.oldkey → ⊥
old_invalid none a = omega (arith, a.index)
old_invalid (requesting pair) a = old_apart pair a
old_invalid (knowing pair) a = old_apart pair a
old_invalid (confirming pair) a = old_apart pair a
old_invalid (activated pair) a = old_apart pair a

not_outside : (x : KeyExchange) → state_of x ≡ Some KL4 → state_of x ≡ None → ⊥
not_outside x e f = cc

-- the first exchange, and a rekey that brings the key of an index
first_turn : List Input
first_turn = Begin ∷ NewKey 1 ∷ BeginToSend ∷ ExistingKey 1 ∷ []

next_turn : ℕ → List Input
next_turn i = Rekey ∷ NewKey i ∷ BeginToSend ∷ ExistingKey i ∷ []

-- so many inputs of the turn that has these indices
way : {o n : ℕ} → ℕ → Pair o n → List Input
way k first = take k first_turn
way k second = first_turn ++ take k (next_turn 2)
way k third = first_turn ++ next_turn 2 ++ take k (next_turn 1)

reached : {x : KeyExchange} → Valued x → (inputs : List Input) × ((after inputs).exchange ≡ x)
unfolding played way first_turn next_turn
reached none = ([], refl)
reached (requesting first) = (way 1 first, refl)
reached (requesting second) = (way 1 second, refl)
reached (requesting third) = (way 1 third, refl)
reached (knowing first) = (way 2 first, refl)
reached (knowing second) = (way 2 second, refl)
reached (knowing third) = (way 2 third, refl)
reached (confirming first) = (way 3 first, refl)
reached (confirming second) = (way 3 second, refl)
reached (confirming third) = (way 3 third, refl)
reached (activated first) = (way 4 first, refl)
reached (activated second) = (way 4 second, refl)
reached (activated third) = (way 4 third, refl)

pub laws : Laws
laws =
    record {
      reported = λ inputs i a. sent_reported i (played_sound inputs start_sound) a;
      reported_to_receive = λ inputs i a. received_reported i (played_sound inputs start_sound) a;
      old_not_sent = λ x e a. old_invalid (valued x (not_outside x e)) (rw e at a);
      old_not_received = λ x e a. old_invalid (valued x (not_outside x e)) (rw e at a);
      begins = λ x input i e. asks x input (state_of x) (ap (λ (m : KeyControl). m.kind) e);
      stopped = λ inputs input. (step_kept (played_sound inputs start_sound) input).stopped;
      inside = λ inputs. sound_inside (played_sound inputs start_sound);
      reached = λ x h. reached (valued x h);
      outside = λ x input e. rw e;
    }
