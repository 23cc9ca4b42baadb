-- What an envelope carries under the key and counter block of its number, and what the end that opens it gives back. Assumes nothing.
use mathlib.Core.Path.{◌≡◌, refl, sym, ◌∙◌, ap, ap₂}
use mathlib.Core.Bool.{Bool, true, false}
use mathlib.Core.List.{List, Memᴰ}
use Prim.Native.Nat.{ℕ}
use native.Mathlib.Omega.{arith}
use lib.ListN.{length}
use borrow.Author.Tests.{leb-true, eq-eqb, not-false}
use Rattle.octets.specs.Choice.{pick}
use Rattle.octets.proofs.Choice.{both_left, both_right, both_true, not_of_true}
use Rattle.envelope.specs.Acceptance.{lengths_fit}
use Rattle.cipher.specs.KeyExpansion.{key_expansion}
use Rattle.sealing.specs.Seal.{carried, count_carried, runs_carried}
use Rattle.sealing.proofs.Seal.{carried_length, carried_twice, count_carried-holds, runs_carried-holds}
use Rattle.protocol.specs.declared.Passage.{Passage}
use Rattle.protocol.specs.declared.Sending.{Sending}
use Rattle.traffic.specs.Passages.{misfit, passed, passed_count, passed_runs}
use Rattle.unicast.specs.Setting.{Setting}
use Rattle.unicast.specs.History.{Direction, downward, upward, Envelope, Lane, key_of, Arrival}
use Rattle.unicast.specs.Claim.{nonce_for, is_sealed, PassageRight, SentRight, ArrivedRight}

-- an envelope goes one way
pub ways_apart : {P : Type 0} → downward ≡ upward → P
ways_apart e = let z : ◌≡◌ {A = ℕ} 0 1 = cc in absurd (omega arith)

---- what is carried

-- the envelope of an accepted send that handed over s, under that number
abbrev pub envelope_of : Direction → ℕ → ℕ → ℕ → ℕ → List ℕ → Sending → ℕ → Envelope
envelope_of direction now up llid channel p s number =
    record {
      direction = direction;
      left = now;
      up = up;
      llid = llid;
      channel = channel;
      payload = p;
      header = s.header;
      octets = passed channel s.passage p;
      count = passed_count s.passage p;
      runs = passed_runs s.passage p;
      passage = s.passage;
      number = number;
    }

module _ (w : Setting) (l : Lane) (e : Envelope) (channel : ℕ) (q : Passage) (r : PassageRight w l e channel q) (p : List ℕ) where
  -- under the key and counter block of its number, clear for 0
  pub passed_right : passed channel q p ≡ carried (is_sealed e) (key_expansion (key_of l.keys e.number)) (nonce_for w l.site e) p
  unfolding passed carried pick
  passed_right = by_number (is_sealed e) refl where
    by_number : (t : Bool) → is_sealed e ≡ t → passed channel q p ≡ carried t (key_expansion (key_of l.keys e.number)) (nonce_for w l.site e) p
    by_number true s = let h = leb-true 1 e.number s in rw (r.enciphered ∙ s, r.key (omega arith), r.nonce (omega arith))
    by_number false s = rw (r.enciphered ∙ s)

  pub count_right : passed_count q p ≡ count_carried (is_sealed e) p
  unfolding passed_count
  count_right = rw r.enciphered

  pub runs_right : passed_runs q p ≡ runs_carried (is_sealed e) p
  unfolding passed_runs
  runs_right = rw r.enciphered

---- lengths

pub fits_alone : (p out : List ℕ) → misfit p out ≡ false → lengths_fit (length p) (length p) ≡ true
unfolding misfit lengths_fit
fits_alone p out e =
    let fit = not-false _ e in
    both_true (both_left _ _ fit) (both_true (both_left _ _ (both_right _ _ fit)) (eq-eqb (length p) (length p) refl))

-- a buffer as long as what was sent fits
pub octets_fit : (w : Setting) (l : Lane) (e : Envelope) (out : List ℕ) → SentRight w l e
    → lengths_fit (length e.payload) (length e.payload) ≡ true → length out ≡ length e.octets → misfit e.octets out ≡ false
unfolding misfit
octets_fit w l e out r f h =
    let same : length e.octets ≡ length e.payload = ap length r.octets ∙ carried_length (is_sealed e) _ _ e.payload in
    not_of_true (ap₂ lengths_fit same (h ∙ same) ∙ f)

---- what is given back

-- an accepted receipt of the envelope, opened with q
abbrev pub arrival_of : Envelope → Passage → Arrival
arrival_of e q =
    record {
      envelope = e;
      number = 0;
      count = passed_count q e.octets;
      runs = passed_runs q e.octets;
      output = passed e.header.channel q e.octets;
      passage = q;
    }

-- opened with the key and counter block of its number
pub opens_right : (w : Setting) (l : Lane) (e : Envelope) (q : Passage) → Memᴰ e l.past.sent → SentRight w l e
    → PassageRight w l e e.header.channel q → ArrivedRight w l (arrival_of e q)
opens_right w l e q m r h =
    record {
      sent = m;
      accepted = refl;
      passage = h;
      payload =
          passed_right w l e e.header.channel q h e.octets
          ∙ ap (carried (is_sealed e) (key_expansion (key_of l.keys e.number)) (nonce_for w l.site e)) r.octets
          ∙ carried_twice (is_sealed e) (key_expansion (key_of l.keys e.number)) (nonce_for w l.site e) e.payload;
      count =
          count_right w l e e.header.channel q h e.octets
          ∙ ap (count_carried (is_sealed e)) r.octets
          ∙ count_carried-holds (is_sealed e) (key_expansion (key_of l.keys e.number)) (nonce_for w l.site e) e.payload
          ∙ sym r.count;
      runs =
          runs_right w l e e.header.channel q h e.octets
          ∙ ap (runs_carried (is_sealed e)) r.octets
          ∙ runs_carried-holds (is_sealed e) (key_expansion (key_of l.keys e.number)) (nonce_for w l.site e) e.payload
          ∙ sym r.runs;
    }
