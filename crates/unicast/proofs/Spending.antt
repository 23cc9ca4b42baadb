-- First sends and channels: what a send makes of them, that earlier sends stay spent, and that two sends under one number on one
-- channel index are apart. Assumes nothing.
use mathlib.Core.Path.{◌≡◌, refl, ◌∙◌}
use mathlib.Core.Bool.{false}
use mathlib.Core.List.{List, [], ◌∷◌, ◌++◌, Memᴰ}
use Prim.Native.Nat.{ℕ, ◌+◌, ◌<◌, ◌≤◌}
use native.Mathlib.Omega.{arith}
use lib.ListN.{length, get_or, length-append, get_or-append}
use lib.Seq.{get_or_at}
use Rattle.octets.proofs.Members.{mem_at}
use Rattle.clock.specs.Ticks.{key_life}
use Rattle.ends.specs.Keys.{noted_at, first_send, aged}
use Rattle.ends.specs.Occupancy.{free_from}
use Rattle.ends.specs.declared.Channels.{Channels}
use Rattle.ends.specs.declared.FirstSend.{FirstSend}
use Rattle.ends.specs.declared.Travel.{Travel}
use Rattle.ends.proofs.Keys.{aged_false, first_stays, first_noted}
use Rattle.unicast.specs.History.{Direction, downward, upward, Envelope}
use Rattle.unicast.specs.Run.{no_envelope}
use Rattle.unicast.proofs.Cases.{same_or_not, below_or_not}
use Rattle.unicast.proofs.Invariant.{Begun, BegunUp, Spent, count_down, count_up, Apart, Spaced}

---- first sends

-- no first send is noted
pub unnoted : (f : FirstSend) (now : ℕ) (t : Travel) → f.noted ≡ 0 → BegunUp f now t
unnoted f now t none = record { begun = λ one. absurd (omega arith); ended = λ one. absurd (omega arith) }

-- what a send under number makes of the first send under current, now, by the end's own count
pub record Renewed (first next : FirstSend) (current number now : ℕ) : Type 0 where
  pub most : current ≤ number
  pub new : 1 ≤ number → (next.noted ≡ 1) × (next.at ≤ now)
  pub old : 1 ≤ number → number ≡ current → first.noted ≡ 1 → (next ≡ first) × (now < first.at + key_life)

-- a send under the key in use, which is not too old
pub renewed_current : (f : FirstSend) (n now : ℕ) → Begun f now → aged f now ≡ false → Renewed f (first_send f now) n n now
renewed_current f n now b a =
    same_or_not f.noted 1
    (λ one.
    rw (first_stays f now one) (record { most = omega arith; new = λ h. (one, b one); old = λ p h g. (refl, aged_false f now one a) }))
    (λ none. rw (first_noted f now none) (record { most = omega arith; new = λ h. (refl, omega arith); old = λ p h g. absurd (none g) }))

-- a send under a new key
pub renewed_next : (f : FirstSend) (current number now : ℕ) → current < number → Renewed f (noted_at now) current number now
renewed_next f current number now h =
    record { most = omega arith; new = λ g. (refl, omega arith); old = λ p e g. absurd (omega arith) }

-- a clear send
pub renewed_clear : (f : FirstSend) (now : ℕ) → Renewed f f 0 0 now
renewed_clear f now = record { most = omega arith; new = λ g. absurd (omega arith); old = λ p e g. absurd (omega arith) }

-- earlier sends of that way
pub spent_kept : (c d : Channels) (first next : FirstSend) (current number now ahead base count : ℕ) (e : Envelope)
    → Renewed first next current number now → free_from c e.channel ≤ free_from d e.channel
    → Spent c first current ahead base count e → Spent d next number ahead base count e
spent_kept c d first next current number now ahead base count e r h s =
    record {
      most = omega (arith, s.most, r.most);
      passed = omega (arith, s.passed);
      noted = λ p q.
          let same : number ≡ current = omega (arith, s.most, r.most) in
          let was = s.noted p (q ∙ same) in
          rw (r.old (omega arith) same was.0).0 was;
    }

-- the send itself
pub spent_new : (d : Channels) (first next : FirstSend) (current number now ahead base count : ℕ) (e : Envelope)
    → Renewed first next current number now → e.number ≡ number → now + ahead ≡ count + base → e.left < free_from d e.channel
    → Spent d next number ahead base count e
spent_new d first next current number now ahead base count e r n t h =
    record { most = omega arith; passed = h; noted = λ p q. let new = r.new (omega arith) in (new.0, omega (arith, new.1, t)) }

---- sends under one number on one channel index

-- it counts more, and the key is not too old
pub apart_new : (count : Envelope → ℕ) (direction : Direction) (c : Channels) (first next : FirstSend) (current now ahead base : ℕ) (x e : Envelope)
    → Renewed first next current e.number now → now + ahead ≡ count e + base
    → (x.direction ≡ direction → Spent c first current ahead base (count x) x)
    → (x.direction ≡ direction → 1 ≤ x.number → x.number ≡ e.number → x.channel ≡ e.channel → count x < count e)
    → Apart count direction x e
apart_new count direction c first next current now ahead base x e r t spent rises direction' direction'' p n i =
    let s = spent direction' in
    let same : e.number ≡ current = omega (arith, s.most, r.most) in
    let was = s.noted p (n ∙ same) in
    let young = (r.old (omega arith) same was.0).1 in
    (rises direction' p n i, omega (arith, young, was.1, t))

apart_more : (count : Envelope → ℕ) (direction : Direction) (sent : List Envelope) (e : Envelope)
    → ((x : Envelope) → Memᴰ x sent → Apart count direction x e)
    → ((i j : ℕ) → i < j → j < length sent → Apart count direction (get_or sent i no_envelope) (get_or sent j no_envelope)) → (i j : ℕ) → i < j
    → j < length (sent ++ (e ∷ [])) → Apart count direction (get_or (sent ++ (e ∷ [])) i no_envelope) (get_or (sent ++ (e ∷ [])) j no_envelope)
apart_more count direction sent e new s i j h g =
    let within : j < length sent + 1 = rw (length-append sent (e ∷ [])) at g in
    below_or_not j (length sent)
    (λ l. rw (get_or-append sent (e ∷ []) no_envelope j l, get_or-append sent (e ∷ []) no_envelope i (omega arith)) (s i j h l))
    (λ l.
    let last : length sent ≡ j = omega arith in
    rw (get_or_at sent e [] no_envelope j last, get_or-append sent (e ∷ []) no_envelope i (omega arith))
    (new (get_or sent i no_envelope) (mem_at sent i no_envelope (omega arith))))

pub spaced_more : (sent : List Envelope) (e : Envelope) → ((x : Envelope) → Memᴰ x sent → Apart count_down downward x e)
    → ((x : Envelope) → Memᴰ x sent → Apart count_up upward x e) → Spaced sent → Spaced (sent ++ (e ∷ []))
spaced_more sent e down up s =
    record { down = apart_more count_down downward sent e down s.down; up = apart_more count_up upward sent e up s.up }
