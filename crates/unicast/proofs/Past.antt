-- Laws of what has been: it holds for every lane that knows more keys and sends. Assumes nothing.
use mathlib.Core.Path.{◌≡◌, refl, ◌∙◌, ap}
use mathlib.Core.Bool.{Bool, true, false}
use mathlib.Core.List.{List, Memᴰ, [], ◌∷◌, ◌++◌}
use Prim.Native.Nat.{ℕ, ◌≤◌}
use native.Mathlib.Omega.{arith}
use lib.ListN.{length}
use borrow.Author.Tests.{leb-true}
use Rattle.octets.specs.Choice.{pick}
use Rattle.octets.proofs.Members.{each_more}
use Rattle.envelope.specs.Acceptance.{lengths_fit}
use Rattle.envelope.specs.declared.Nonce.{Nonce}
use Rattle.cipher.specs.KeyExpansion.{key_expansion}
use Rattle.sealing.specs.Seal.{carried}
use Rattle.ends.specs.Identities.{has}
use Rattle.ends.specs.declared.Channels.{Channels}
use Rattle.ends.specs.declared.Onu.{Onu}
use Rattle.protocol.specs.declared.Passage.{Passage}
use Rattle.ends.specs.declared.Shared.{Shared}
use Rattle.ends.specs.declared.UnitRecord.{UnitRecord}
use Rattle.unicast.specs.Setting.{Site, Setting}
use Rattle.unicast.specs.History.{Direction, downward, upward, Envelope, Arrival, Lane, key_of}
use Rattle.unicast.specs.Claim.{nonce_for, is_sealed, PassageRight, SentRight, ArrivedRight}
use Rattle.unicast.proofs.Invariant.{Towards, From, Spending, Passing, Joined}
use Rattle.unicast.proofs.Queues.{Knows, towards_moved, from_moved}

-- a clear envelope carries its payload, whatever the key
carried_same : (t : Bool) (k k' : List ℕ) (n : Nonce) (p : List ℕ) → (t ≡ true → k ≡ k')
    → carried t (key_expansion k) n p ≡ carried t (key_expansion k') n p
unfolding carried pick
carried_same true k k' n p h = ap (λ (x : List ℕ). carried true (key_expansion x) n p) (h refl)
carried_same false k k' n p h = refl

module _ (w : Setting) (l l' : Lane) (top : ℕ) (k : Knows l l' top) where
  passage_carried : (e : Envelope) (channel : ℕ) (q : Passage) → e.number ≤ top → PassageRight w l e channel q → PassageRight w l' e channel q
  passage_carried e channel q h r =
      record {
        enciphered = r.enciphered;
        key = λ p. r.key p ∙ k.keys e.number p h;
        nonce = λ p. r.nonce p ∙ ap (λ (s : Site). nonce_for w s e) k.site;
      }

  pub sent_carried : (e : Envelope) → e.number ≤ top → SentRight w l e → SentRight w l' e
  sent_carried e h r =
      let octets =
      r.octets
      ∙ carried_same (is_sealed e) _ _ _ _ (λ t. k.keys e.number (leb-true 1 e.number t) h)
      ∙ ap (λ (s : Site). carried (is_sealed e) (key_expansion (key_of l'.keys e.number)) (nonce_for w s e) e.payload) k.site in
      search passage_carried

  pub arrived_carried : (r : Arrival) → r.envelope.number ≤ top → ArrivedRight w l r → ArrivedRight w l' r
  arrived_carried r h a = search (k.sent, passage_carried)

  -- where no more is sent and no more has arrived
  pub passing_moved : (confirmed active : ℕ) → l'.past ≡ l.past → ((e : Envelope) → Memᴰ e l.past.sent → e.number ≤ top)
      → Passing w l confirmed active → Passing w l' confirmed active
  passing_moved confirmed active same h p =
      record {
        sent = λ e m. let was = rw same at m in sent_carried e (h e was) (p.sent e was);
        named = λ e m. rw k.site at (p.named e (rw same at m));
        fits = λ e m. p.fits e (rw same at m);
        arrived = λ r m. let a = p.arrived r (rw same at m) in arrived_carried r (h r.envelope a.sent) a;
        down = λ r m. p.down r (rw same at m);
        up = λ r m. p.up r (rw same at m);
      }

-- no send is numbered above A
pub sent_most : (l : Lane) (down : Channels) (u : UnitRecord) (o : Onu) → Spending l down u o → o.keys.active ≤ u.keys.active → (e : Envelope)
    → Memᴰ e l.past.sent → e.number ≤ u.keys.active
sent_most l down u o s h e m = by_direction e.direction refl where
  by_direction : (x : Direction) → e.direction ≡ x → e.number ≤ u.keys.active
  by_direction downward f = (s.downs e m f).1.most
  by_direction upward f = omega (arith, (s.ups e m f).1.most)

-- what is under way and what has been hold of a lane that knows no less and has the same past
pub moved_keeps : (w : Setting) (sh : Shared) (now : ℕ) (l l' : Lane) (u : UnitRecord) (o : Onu) → Joined w sh now l u o
    → Knows l l' u.keys.offered → l'.past ≡ l.past
    → Towards w.first l.path l' o.keys.active u.keys.active u.keys.offered l.transit.towards
    × From l' u.confirmation.confirmed o.keys.active l.transit.from × Passing w l' u.confirmation.confirmed o.keys.active
moved_keeps w sh now l l' u o j k same =
    let n = j.numbers in (
      towards_moved w.first l.path l l' o.keys.active u.keys.active u.keys.offered l.transit.towards k j.towards,
      from_moved l l' u.keys.offered u.confirmation.confirmed o.keys.active l.transit.from k j.from,
      passing_moved w l l' u.keys.offered k u.confirmation.confirmed o.keys.active same
          (λ e m. omega (arith, sent_most l sh.channels u o j.spending n.mid e m)) j.passing,
    )

---- one more

-- one send more
pub passing_sent : (w : Setting) (l m : Lane) (e : Envelope) (confirmed active : ℕ) → ((top : ℕ) → Knows l m top)
    → m.past.sent ≡ l.past.sent ++ (e ∷ []) → m.past.arrived ≡ l.past.arrived
    → SentRight w m e → has l.site.identity e.llid ≡ true → lengths_fit (length e.payload) (length e.payload) ≡ true
    → Passing w l confirmed active → Passing w m confirmed active
passing_sent w l m e confirmed active k t a right named fits p =
    record {
      sent = λ x h.
          each_more (SentRight w m) l.past.sent e (λ y g. sent_carried w l m y.number (k y.number) y (omega arith) (p.sent y g)) right x
          (rw t at h);
      named = λ x h.
          rw (k 0).site
          at (each_more (λ (y : Envelope). has l.site.identity y.llid ≡ true) l.past.sent e p.named named x (rw t at h));
      fits = λ x h.
          each_more (λ (y : Envelope). lengths_fit (length y.payload) (length y.payload) ≡ true) l.past.sent e p.fits fits x
          (rw t at h);
      arrived = λ r h.
          arrived_carried w l m r.envelope.number (k r.envelope.number) r (omega arith) (p.arrived r (rw a at h));
      down = λ r h. p.down r (rw a at h);
      up = λ r h. p.up r (rw a at h);
    }

-- one arrival more
pub passing_arrived : (w : Setting) (l m : Lane) (r : Arrival) (confirmed confirmed' active active' : ℕ) → ((top : ℕ) → Knows l m top)
    → m.past.sent ≡ l.past.sent → m.past.arrived ≡ l.past.arrived ++ (r ∷ []) → confirmed ≤ confirmed' → active ≤ active'
    → ArrivedRight w l r → (r.envelope.direction ≡ downward → r.envelope.number ≤ active')
    → (r.envelope.direction ≡ upward → r.envelope.number ≤ confirmed')
    → Passing w l confirmed active → Passing w m confirmed' active'
passing_arrived w l m r confirmed confirmed' active active' k s t c a right down up p =
    record {
      sent = λ x h. sent_carried w l m x.number (k x.number) x (omega arith) (p.sent x (rw s at h));
      named = λ x h. rw (k 0).site at (p.named x (rw s at h));
      fits = λ x h. p.fits x (rw s at h);
      arrived = λ x h.
          each_more (ArrivedRight w m) l.past.arrived r (λ y g. carry y (p.arrived y g)) (carry r right) x (rw t at h);
      down = λ x h.
          each_more (λ (y : Arrival). y.envelope.direction ≡ downward → y.envelope.number ≤ active') l.past.arrived r
          (λ y g q. let was = p.down y g q in omega (arith, was)) down x (rw t at h);
      up = λ x h.
          each_more (λ (y : Arrival). y.envelope.direction ≡ upward → y.envelope.number ≤ confirmed') l.past.arrived r
          (λ y g q. let was = p.up y g q in omega (arith, was)) up x (rw t at h);
    } where
      carry : (y : Arrival) → ArrivedRight w l y → ArrivedRight w m y
      carry y g = arrived_carried w l m y.envelope.number (k y.envelope.number) y (omega arith) g
