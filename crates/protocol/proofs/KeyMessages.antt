-- Laws of key messages at the ONU: what an accepted one has met, that it keeps the ONU valid, and that one repeated leaves it. Assumes nothing.
use mathlib.Core.Path.{◌≡◌, refl, ◌∙◌, ap₂}
use mathlib.Core.Bool.{Bool, true, false}
use mathlib.Core.List.{List}
use Prim.Native.Nat.{ℕ, ◌+◌, ◌<◌}
use borrow.Author.Tests.{lt-ltb, eq-eqb}
use Rattle.octets.specs.Choice.{either}
use Rattle.octets.specs.Lists.{same}
use Rattle.octets.proofs.Choice.{both_true, pick_true, pick_false, both_false_left, either_left, either_right, pick_holds}
use Rattle.octets.proofs.Lists.{same_refl}
use Rattle.refusal.specs.Order.{refuse_if}
use Rattle.ends.specs.Limits.{max_key_number}
use Rattle.ends.specs.Keys.{key_in, with_key}
use Rattle.ends.specs.Identities.{has}
use Rattle.ends.specs.Records.{with_onu_keys}
use Rattle.ends.specs.Validity.{valid_onu_keys, valid_onu}
use Rattle.protocol.specs.Messages.{no_acknowledgement, of_key}
use Rattle.protocol.specs.OnuCalls.{onu_acknowledged, new_key, held_key, active_key, key_message_verdict, keys_taken, key_message_to, key_message_at}
use Rattle.ends.specs.declared.OnuKeys.{OnuKeys}
use Rattle.ends.specs.declared.Onu.{Onu}
use Rattle.protocol.specs.declared.KeyMessage.{KeyMessage}
use Rattle.refusal.proofs.Numbers.{number_accepted}
use Rattle.ends.proofs.Keys.{key_stored}
use Rattle.ends.proofs.Validity.{onu_in_range, onu_valid}
use Rattle.protocol.proofs.Replies.{met}
use Rattle.protocol.proofs.OnuCalls.{onu_accepted, onu_accepts, onu_keeps}
use Rattle.refusal.specs.Verdict.{no_refusal}

---- what is met

pub record TakesKey (o : Onu) (m : KeyMessage) : Type 0 where
  pub has : has o.identity m.llid ≡ true
  pub synced : o.clock.synced ≡ 1
  pub fits : either (new_key o.keys m) (either (held_key o.keys m) (active_key o.keys m)) ≡ true

pub key_message_accepted : (o : Onu) (m : KeyMessage) → key_message_verdict o m ≡ no_refusal → TakesKey o m
unfolding key_message_verdict
key_message_accepted o m e = search met depth 8

pub key_message_met : (o : Onu) (m : KeyMessage) → (key_message_to o m).verdict ≡ no_refusal → (valid_onu o ≡ true) × TakesKey o m
unfolding key_message_to
key_message_met o m e =
    let a = onu_accepted o no_acknowledgement _ _ (of_key m.number) e in
    (a.0, key_message_accepted o m a.1)

pub key_message_accepts : (o : Onu) (m : KeyMessage) → TakesKey o m → key_message_verdict o m ≡ no_refusal
unfolding key_message_verdict refuse_if
key_message_accepts o m t = rw (t.has, t.synced, t.fits)

-- what a new key's message says
pub record NewKey (k : OnuKeys) (m : KeyMessage) : Type 0 where
  pub held : k.held ≡ 0
  pub below : k.active < max_key_number
  pub number : m.number ≡ k.active + 1

pub new_key_true : (k : OnuKeys) (m : KeyMessage) → new_key k m ≡ true → NewKey k m
unfolding new_key
new_key_true k m e = search met

---- validity

pub keys_taken_valid : (k : OnuKeys) (m : KeyMessage) → valid_onu_keys k ≡ true → valid_onu_keys (keys_taken k m) ≡ true
unfolding keys_taken valid_onu_keys
keys_taken_valid k m v =
    pick_holds (λ (j : OnuKeys). valid_onu_keys j ≡ true) (new_key k m) _ k
    (λ e. both_true refl (either_right _ (lt-ltb _ _ (new_key_true k m e).below))) (λ e. v)

-- an ONU whose keys alone are replaced by valid ones
pub keys_replaced_valid : (o : Onu) (k : OnuKeys) → valid_onu_keys k ≡ true → valid_onu o ≡ true → valid_onu (with_onu_keys o k) ≡ true
unfolding with_onu_keys
keys_replaced_valid o k w v = let r = onu_in_range o v in onu_valid (with_onu_keys o k) (search)

pub key_message_valid : (o : Onu) (m : KeyMessage) → valid_onu o ≡ true → valid_onu (key_message_at o m).onu ≡ true
unfolding key_message_at key_message_to onu_acknowledged
key_message_valid o m v =
    onu_keeps (λ (p : Onu). valid_onu p ≡ true) o no_acknowledgement _ _ (of_key m.number) v
    (λ w a. keys_replaced_valid o _ (keys_taken_valid o.keys m (onu_in_range o w).keys) w)

---- a message repeated

-- the same number and key, by any LLID of the unit
pub record SameMessage (o : Onu) (m n : KeyMessage) : Type 0 where
  pub has : has o.identity n.llid ≡ true
  pub number : n.number ≡ m.number
  pub key : n.key ≡ m.key

-- the keys after a new key
abbrev pub with_held : OnuKeys → List ℕ → OnuKeys
with_held k key = record { active = k.active; held = 1; slots = with_key k.slots (k.active + 1) key }

pub taken_new : (k : OnuKeys) (m : KeyMessage) → new_key k m ≡ true → keys_taken k m ≡ with_held k m.key
unfolding keys_taken
taken_new k m e = pick_true _ k e

pub taken_other : (k : OnuKeys) (m : KeyMessage) → new_key k m ≡ false → keys_taken k m ≡ k
unfolding keys_taken
taken_other k m e = pick_false _ k e

-- the key that is now held is not new, and is the held one
held_fits : (k : OnuKeys) (m : KeyMessage) → m.number ≡ k.active + 1 → held_key (with_held k m.key) m ≡ true
unfolding held_key
held_fits k m e =
    let stored : same m.key (key_in (with_key k.slots (k.active + 1) m.key) (k.active + 1)) ≡ true =
    rw (key_stored k.slots (k.active + 1) m.key) (same_refl m.key) in
    both_true refl (both_true (eq-eqb _ _ e) stored)

-- where a message fits, it fits again what it leaves, and is no new key there
record Again (k : OnuKeys) (m : KeyMessage) : Type 0 where
  fits : either (new_key k m) (either (held_key k m) (active_key k m)) ≡ true
  old : new_key k m ≡ false

fits_again : (k : OnuKeys) (m : KeyMessage) → either (new_key k m) (either (held_key k m) (active_key k m)) ≡ true → Again (keys_taken k m) m
fits_again k m e = by_new (new_key k m) refl where
  by_new : (t : Bool) → new_key k m ≡ t → Again (keys_taken k m) m
  by_new true f =
      rw (taken_new k m f)
      (record { fits = either_right _ (either_left _ (held_fits k m (new_key_true k m f).number)); old = unfold new_key in both_false_left _ refl })
  by_new false f = rw (taken_other k m f) (record { fits = e; old = f })

-- the whole reply to a key message that is accepted
pub key_message_taken : (o : Onu) (m : KeyMessage) → valid_onu o ≡ true → TakesKey o m
    → key_message_to o m ≡ record { verdict = no_refusal; end = with_onu_keys o (keys_taken o.keys m); handed = of_key m.number }
unfolding key_message_to
key_message_taken o m v t = onu_accepts o no_acknowledgement _ _ _ v (key_message_accepts o m t)

taken_again : (o : Onu) (m n : KeyMessage) → SameMessage o m n → valid_onu o ≡ true → TakesKey o m
    → key_message_to (with_onu_keys o (keys_taken o.keys m)) n
    ≡ record { verdict = no_refusal; end = with_onu_keys o (keys_taken o.keys m); handed = of_key m.number }
unfolding with_onu_keys new_key held_key active_key
taken_again o m n s v t =
    let k = keys_taken o.keys m in
    let r = fits_again o.keys m t.fits in
    let old : new_key k n ≡ false = rw s.number r.old in
    let takes : TakesKey (with_onu_keys o k) n = record { has = s.has; synced = t.synced; fits = rw (s.number, s.key) r.fits } in
    let valid = keys_replaced_valid o k (keys_taken_valid o.keys m (onu_in_range o v).keys) v in
    key_message_taken (with_onu_keys o k) n valid takes
    ∙ ap₂ (λ (j : OnuKeys) (x : ℕ). record { verdict = no_refusal; end = with_onu_keys o j; handed = of_key x }) (taken_other k n old) s.number

-- a key message repeated is answered as the first, and leaves what the first left
pub key_message_again : (o : Onu) (m n : KeyMessage) → SameMessage o m n → (key_message_at o m).number ≡ 0
    → key_message_at (key_message_at o m).onu n ≡ key_message_at o m
unfolding key_message_at onu_acknowledged
key_message_again o m n s e =
    let a = key_message_met o m (number_accepted _ e) in
    rw (key_message_taken o m a.0 a.1, taken_again o m n s a.0 a.1)
