-- Each call on keys keeps what holds of a registered unit: offer, retry, and a key message that arrives. Assumes nothing.
use mathlib.Core.Path.{◌≡◌, refl, sym, ◌∙◌, ap, subst}
use mathlib.Core.Bool.{Bool, true, false}
use mathlib.Core.List.{List, [], ◌∷◌, ◌++◌}
use mathlib.Core.Logic.{◌⊎◌, inl, inr, ⊎_elim}
use Prim.Native.Nat.{ℕ, ◌+◌, ◌-◌, ◌<◌, ◌≤◌}
use native.Mathlib.Omega.{arith}
use lib.ListN.{length, get_or, length-append, get_or-append}
use lib.Seq.{get_or_at}
use borrow.Author.Tests.{eqb-true}
use Rattle.octets.specs.Choice.{either}
use Rattle.octets.proofs.Choice.{both_left, both_right, true_false, either_cases}
use Rattle.ends.specs.Identities.{has}
use Rattle.ends.specs.Keys.{key_in, with_key}
use Rattle.protocol.specs.Lift.{outcome}
use Rattle.protocol.specs.Messages.{of_key}
use Rattle.protocol.specs.OnuCalls.{new_key, held_key, active_key, keys_taken, key_message_at, onu_acknowledged}
use Rattle.ends.specs.Records.{with_keys, with_confirmation, with_onu_keys}
use Rattle.protocol.specs.Replies.{Reply}
use Rattle.protocol.specs.UnitCalls.{keys_offered, unit_offered, key_message_of, offer_unit, retry_unit}
use Rattle.protocol.specs.declared.Acknowledgement.{Acknowledgement}
use Rattle.protocol.specs.declared.KeyMessage.{KeyMessage}
use Rattle.ends.specs.declared.Onu.{Onu}
use Rattle.ends.specs.declared.Shared.{Shared}
use Rattle.ends.specs.declared.Slots.{Slots}
use Rattle.ends.specs.declared.UnitRecord.{UnitRecord}
use Rattle.ends.proofs.Keys.{key_stored, key_beside}
use Rattle.protocol.proofs.OnuCalls.{key_message_refused}
use Rattle.refusal.proofs.Numbers.{number_accepted}
use Rattle.protocol.proofs.UnitCalls.{offer_accepted, retry_accepted}
use Rattle.protocol.proofs.KeyMessages.{TakesKey, key_message_met, key_message_taken, with_held, taken_new, taken_other}
use Rattle.unicast.specs.Setting.{Setting}
use Rattle.unicast.specs.History.{InFlight, key_message, Lane, key_of, due, lane_with, lane_leaving, lane_offered, lane_taken, lane_answered}
use Rattle.unicast.proofs.Cases.{same_or_not}
use Rattle.unicast.proofs.Invariant.{reach_of, Stored, Answers, Joined, Common, AtTick}
use Rattle.unicast.proofs.Queues.{towards_weakened, towards_key, towards_taken}
use Rattle.unicast.proofs.Past.{moved_keeps}
use Rattle.unicast.proofs.Frames.{leaving_keeps, taken_keeps, answered_keeps}
use Rattle.refusal.specs.Verdict.{no_refusal}

---- keys by number

-- an offer more leaves the keys before it, and gives the next
pub keys_before : (offers : List (List ℕ)) (key : List ℕ) (n : ℕ) → 1 ≤ n → n ≤ length offers
    → get_or offers (n - 1) [] ≡ get_or (offers ++ (key ∷ [])) (n - 1) []
keys_before offers key n h g = sym (get_or-append offers (key ∷ []) [] (n - 1) (omega arith))

pub key_last : (offers : List (List ℕ)) (key : List ℕ) (n : ℕ) → n ≡ length offers → get_or (offers ++ (key ∷ [])) (n + 1 - 1) [] ≡ key
key_last offers key n h = get_or_at offers key [] [] (n + 1 - 1) (omega arith)

-- with key a + 1 stored beside key a, both are what their numbers give
pub next_stored : (s : Slots) (a : ℕ) (key : List ℕ) (f : ℕ → List ℕ) → key ≡ f (a + 1) → (1 ≤ a → key_in s a ≡ f a) → (n : ℕ)
    → 1 ≤ n → a ≤ n → n ≤ a + 1
    → key_in (with_key s (a + 1) key) n ≡ f n
next_stored s a key f new old n h g k =
    same_or_not n a (λ same. key_beside s n (a + 1) key (λ p. omega arith) ∙ rw same (old (omega arith)))
    (λ other. let same : n ≡ a + 1 = omega arith in rw same (key_stored s (a + 1) key ∙ new))

module _ (w : Setting) (sh : Shared) (now : ℕ) (l : Lane) (u : UnitRecord) (o : Onu) where
  ---- offer

  pub offer_keeps : (llid : ℕ) (key : List ℕ) → AtTick w now sh → Joined w sh now l u o → has l.site.identity llid ≡ true
      → (offer_unit llid key sh u).verdict ≡ no_refusal
      → Joined w sh now (lane_leaving (key_message (offer_unit llid key sh u).handed now) (lane_offered key l)) (offer_unit llid key sh u).unit o
  unfolding offer_unit outcome unit_offered with_keys with_confirmation keys_offered key_message_of lane_offered lane_with due
  offer_keeps llid key at j named accepted =
      let n = j.numbers in
      let a = offer_accepted u key accepted in
      let after = lane_offered key l in
      let listed = length-append l.keys.offers (key ∷ []) in
      let old : (m : ℕ) → 1 ≤ m → m ≤ u.keys.offered → key_of l.keys m ≡ key_of after.keys m =
      λ m h g. keys_before l.keys.offers key m h (omega arith) in
      let stored : (m : ℕ) → 1 ≤ m → u.keys.active ≤ m → m ≤ u.keys.active + 1
      → key_in (with_key u.keys.slots (u.keys.active + 1) key) m ≡ key_of after.keys m =
      next_stored u.keys.slots u.keys.active key (key_of after.keys) (sym (key_last l.keys.offers key u.keys.active (omega arith)))
      (λ h. j.stored.olt u.keys.active h (omega arith) (omega arith) ∙ old u.keys.active h (omega arith)) in
      let moved = moved_keeps w sh now l after u o j (record { site = refl; sent = λ e m. m; keys = old }) refl in
      let held : Stored after.keys u.confirmation.confirmed (u.keys.active + 1) (with_key u.keys.slots (u.keys.active + 1) key) o.keys =
      record { olt = λ m h g k. stored m h (omega arith) k; onu = λ m h g k. j.stored.onu m h g k ∙ old m h (omega arith) } in
      let unmarked : false ≡ true → u.keys.active + 1 ≤ reach_of o.keys = λ e. true_false (sym e) in
      let towards =
      towards_weakened w.first l.path after o.keys.active o.keys.active u.keys.active u.keys.active u.keys.offered
      (u.keys.active + 1) l.transit.towards (omega arith) (omega arith) (omega arith) moved.0 in
      let offered : Joined w sh now after (offer_unit llid key sh u).unit o = search arith in
      leaving_keeps w sh now after (offer_unit llid key sh u).unit o (key_message (offer_unit llid key sh u).handed now)
      (λ e q. let z : ◌≡◌ {A = ℕ} 0 1 = cc in omega arith) (λ m c left q. let z : ◌≡◌ {A = ℕ} 0 1 = cc in absurd (omega arith)) refl offered
      (towards_key w.first l.path after o.keys.active u.keys.active (u.keys.active + 1) l.transit.towards _ now n.mid
      (record { above = omega arith; most = omega arith; key = stored (u.keys.active + 1) (omega arith) (omega arith) (omega arith); named = named })
      towards)

  ---- retry

  pub retry_keeps : (llid : ℕ) → AtTick w now sh → Joined w sh now l u o → has l.site.identity llid ≡ true
      → (retry_unit llid sh u).verdict ≡ no_refusal
      → Joined w sh now (lane_leaving (key_message (retry_unit llid sh u).handed now) l) (retry_unit llid sh u).unit o
  unfolding retry_unit outcome key_message_of
  retry_keeps llid at j named accepted =
      let n = j.numbers in
      let more : u.keys.active < u.keys.offered = omega (arith, retry_accepted u accepted) in
      leaving_keeps w sh now l u o (key_message (key_message_of llid u.keys) now) (λ e q. let z : ◌≡◌ {A = ℕ} 0 1 = cc in omega arith)
      (λ m c left q. let z : ◌≡◌ {A = ℕ} 0 1 = cc in absurd (omega arith)) refl j
      (towards_key w.first l.path l o.keys.active u.keys.active u.keys.offered l.transit.towards
      (key_message_of llid u.keys) now n.mid
      (record { above = more; most = omega arith; key = j.stored.olt u.keys.offered (omega arith) (omega arith) (omega arith); named = named })
      j.towards)

  ---- a key message arrives

  -- key a + 1 is kept
  held_keeps : (key : List ℕ) → Joined w sh now l u o → o.clock.synced ≡ 1 → o.keys.active + 1 ≤ u.keys.offered
      → key ≡ key_of l.keys (o.keys.active + 1) → Joined w sh now l u (with_onu_keys o (with_held o.keys key))
  unfolding with_onu_keys
  held_keeps key j synced offered right =
      let n = j.numbers in
      let stored =
      next_stored o.keys.slots o.keys.active key (key_of l.keys) right (λ h. j.stored.onu o.keys.active h (omega arith) (omega arith)) in
      let answers : Answers now (with_held o.keys key) o.clock l.transit.answered =
      record { each = λ x m. (λ e. synced, λ e. omega (arith, (j.answers.each x m).1 e)); set = j.answers.set } in
      search arith

  module _ (k : ℕ) (x : InFlight) (m : KeyMessage) (t : ℕ) where
    -- what stands in the queue is the message of key a + 1
    pub record NextKey : Type 0 where
      pub number : m.number ≡ o.keys.active + 1
      pub offered : m.number ≤ u.keys.offered
      pub key : m.key ≡ key_of l.keys m.number
      pub named : has l.site.identity m.llid ≡ true

    pub next_key-holds : Joined w sh now l u o → k < length l.transit.towards → get_or l.transit.towards k x ≡ key_message m t → NextKey
    next_key-holds j h e =
        let n = j.numbers in
        let taken =
        towards_taken w.first l.path l o.keys.active u.keys.active u.keys.offered l.transit.towards k x (key_message m t) h e
        j.towards in
        let r = taken.0 in
        record { number = omega (arith, r.above, r.most); offered = r.most; key = r.key; named = r.named }

    -- a key message that fits leaves key a + 1 held
    holding : TakesKey o m → NextKey → Joined w sh now l u o
        → Joined w sh now l u (with_onu_keys o (keys_taken o.keys m)) × (m.number ≤ reach_of (keys_taken o.keys m))
    unfolding held_key active_key with_onu_keys
    holding takes next j = by_fit (either_cases _ _ takes.fits) (new_key o.keys m) refl where
      by_fit : (new_key o.keys m ≡ true) ⊎ (either (held_key o.keys m) (active_key o.keys m) ≡ true) → (b : Bool) → new_key o.keys m ≡ b
          → Joined w sh now l u (with_onu_keys o (keys_taken o.keys m)) × (m.number ≤ reach_of (keys_taken o.keys m))
      by_fit fits true f =
          rw (taken_new o.keys m f) (
            held_keeps m.key j takes.synced (omega (arith, next.number, next.offered)) (next.key ∙ ap (key_of l.keys) next.number),
            omega (arith, next.number),
          )
      by_fit (inl new) false f = true_false (sym new ∙ f)
      by_fit (inr old) false f =
          rw (taken_other o.keys m f) (
            j,
            ⊎_elim
                (λ held. omega (arith, eqb-true o.keys.held 1 (both_left _ _ held)))
                (λ active. omega (arith, eqb-true m.number o.keys.active (both_left _ _ (both_right _ _ active))))
                (either_cases _ _ old),
          )

    -- accepted: the key is held, or was, and the unit answers for it; refused: the unit stays as it is
    pub key_arrives : Common w now l o → Joined w sh now l u o → k < length l.transit.towards → get_or l.transit.towards k x ≡ key_message m t
        → ((key_message_at o m).number ≡ 0
        → Joined w sh now (lane_answered (key_message_at o m).acknowledgement now (lane_taken k l)) u (key_message_at o m).onu)
        × (((key_message_at o m).number ≡ 0 → ⊥) → ((key_message_at o m).onu ≡ o) × Joined w sh now (lane_taken k l) u o)
    unfolding key_message_at onu_acknowledged with_onu_keys
    key_arrives c j h e = (
      λ accepted.
          let met = key_message_met o m (number_accepted _ accepted) in
          let ks = keys_taken o.keys m in
          let after = holding met.1 (next_key-holds j h e) j in
          subst (λ (r : Reply Onu Acknowledgement). Joined w sh now (lane_answered r.handed now (lane_taken k l)) u r.end)
          (sym (key_message_taken o m met.0 met.1))
          (answered_keeps w sh now (lane_taken k l) u (with_onu_keys o ks) (of_key m.number) (taken_keeps w sh now l u (with_onu_keys o ks) k after.0)
          (λ kind. met.1.synced) (λ kind. after.1)),
      λ refused. ((key_message_refused o m refused).0, taken_keeps w sh now l u o k j),
    )
