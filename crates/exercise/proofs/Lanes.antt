-- What the unit's line keeps through a play: its delays are 0, it is registered, the keys offered are those of the steps so far, and the unit's answers
-- to the latest messages can still arrive. Assumes nothing.
use mathlib.Core.Path.{◌≡◌, refl, sym, ap, ◌∙◌, subst}
use mathlib.Core.Bool.{Bool, true, false}
use mathlib.Core.List.{List, [], ◌∷◌, ◌++◌}
use mathlib.Core.Logic.{◌⊎◌, inl, inr, ⊎_elim}
use Prim.Native.Nat.{ℕ, suc, ◌≤◌, ◌<◌}
use native.Mathlib.Omega.{arith}
use lib.Dec.{ltb}
use lib.ListN.{length, get_or, length-append, get_or-append}
use lib.Seq.{get_or_at}
use borrow.Author.Tests.{ltb-true, ltb-false, eq-eqb}
use Rattle.octets.specs.Choice.{either}
use Rattle.octets.proofs.Choice.{pick_holds, pick_true, both_true}
use Rattle.protocol.specs.declared.Acknowledgement.{Acknowledgement}
use Rattle.ends.specs.Identities.{has, llids_of, among}
use Rattle.unicast.specs.History.{Answered, Lane, lane_answered, lane_offered, lane_with}
use Rattle.unicast.specs.Setting.{Delays, Site}
use Rattle.unicast.specs.Run.{accepted, noted, named}
use Rattle.exercise.specs.Play.{unit_llid, unit_identity, olt_mac, key_of_step}

-- the unit of every play
abbrev pub site : Site
site = record { identity = unit_identity; oltmac = olt_mac; time = 0; up = 0; down = 0 }

abbrev pub no_delay : Delays
no_delay = record { up = 0; down = 0 }

-- the key of one of the steps up to k
pub record OfStep (key : List ℕ) (k : ℕ) : Type 0 where
  pub step : ℕ
  pub before : step ≤ k
  pub same : key ≡ key_of_step step

abbrev pub no_answered : Answered
no_answered = record { acknowledgement = record { kind = 0; number = 0 }; tick = 0 }

-- the unit handed over this acknowledgement, at the tick now or before
pub record Given (given : List Answered) (now : ℕ) (a : Acknowledgement) : Type 0 where
  pub place : ℕ
  pub tick : ℕ
  pub some : place < length given
  pub same : get_or given place no_answered ≡ record { acknowledgement = a; tick = tick }
  pub by : tick ≤ now

-- of the latest message of its kind: none, or one that was given
abbrev pub Latest : List Answered → ℕ → Acknowledgement → Type 0
Latest given now a = (a.kind ≡ 0) ⊎ Given given now a

pub record Kept (l : Lane) (now k : ℕ) (clock key : Acknowledgement) : Type 0 where
  pub place : l.site ≡ site
  pub path : l.path ≡ no_delay
  pub registered : l.entry.registered ≡ true
  pub offered : (n : ℕ) → n < length l.keys.offers → OfStep (get_or l.keys.offers n []) k
  pub clocks : Latest l.transit.answered now clock
  pub keys : Latest l.transit.answered now key

latest_later : (given : List Answered) (n m : ℕ) (a : Acknowledgement) → n ≤ m → Latest given n a → Latest given m a
latest_later given n m a h x =
    ⊎_elim (λ e. inl e)
    (λ (g : Given given n a). inr (record { place = g.place; tick = g.tick; some = g.some; same = g.same; by = omega (arith, g.by) }))
    x

-- a later tick, a later step, and a line of which other parts have changed
pub kept_on : (l l' : Lane) (n m k j : ℕ) (a b : Acknowledgement) → l'.site ≡ l.site → l'.path ≡ l.path
    → l'.entry.registered ≡ l.entry.registered → l'.keys.offers ≡ l.keys.offers → l'.transit.answered ≡ l.transit.answered
    → n ≤ m → k ≤ j → Kept l n k a b → Kept l' m j a b
kept_on l l' n m k j a b e d f g h later next x =
    record {
      place = e ∙ x.place;
      path = d ∙ x.path;
      registered = f ∙ x.registered;
      offered =
          subst (λ (os : List (List ℕ)). (i : ℕ) → i < length os → OfStep (get_or os i []) j) (sym g)
          (λ i q. let o = x.offered i q in record { step = o.step; before = omega (arith, o.before); same = o.same });
      clocks = subst (λ (r : List Answered). Latest r m a) (sym h) (latest_later _ n m a later x.clocks);
      keys = subst (λ (r : List Answered). Latest r m b) (sym h) (latest_later _ n m b later x.keys);
    }

-- an answer more
latest_more : (given : List Answered) (x : Answered) (n : ℕ) (a : Acknowledgement) → Latest given n a → Latest (given ++ (x ∷ [])) n a
latest_more given x n a h =
    ⊎_elim (λ e. inl e)
    (λ (g : Given given n a).
    inr
    (record {
      place = g.place;
      tick = g.tick;
      some = omega (arith, length-append given (x ∷ []), g.some);
      same = get_or-append given (x ∷ []) no_answered g.place g.some ∙ g.same;
      by = g.by;
    }))
    h

latest_last : (given : List Answered) (n : ℕ) (a : Acknowledgement) → Latest (given ++ (record { acknowledgement = a; tick = n } ∷ [])) n a
latest_last given n a =
    inr
    (record {
      place = length given;
      tick = n;
      some = omega (arith, length-append given (record { acknowledgement = a; tick = n } ∷ []));
      same = get_or_at given _ [] no_answered (length given) refl;
      by = omega arith;
    })

pub clock_given : (l : Lane) (n k : ℕ) (a b c : Acknowledgement) → Kept l n k a b → Kept (lane_answered c n l) n k c b
unfolding lane_answered lane_with
clock_given l n k a b c x =
    record {
      place = x.place;
      path = x.path;
      registered = x.registered;
      offered = x.offered;
      clocks = latest_last l.transit.answered n c;
      keys = latest_more l.transit.answered _ n b x.keys;
    }

pub key_given : (l : Lane) (n k : ℕ) (a b c : Acknowledgement) → Kept l n k a b → Kept (lane_answered c n l) n k a c
unfolding lane_answered lane_with
key_given l n k a b c x =
    record {
      place = x.place;
      path = x.path;
      registered = x.registered;
      offered = x.offered;
      clocks = latest_more l.transit.answered _ n a x.clocks;
      keys = latest_last l.transit.answered n c;
    }

-- no answer any more
pub clock_none : (l : Lane) (n k : ℕ) (a b c : Acknowledgement) → c.kind ≡ 0 → Kept l n k a b → Kept l n k c b
clock_none l n k a b c e x =
    record { place = x.place; path = x.path; registered = x.registered; offered = x.offered; clocks = inl e; keys = x.keys }

pub key_none : (l : Lane) (n k : ℕ) (a b c : Acknowledgement) → c.kind ≡ 0 → Kept l n k a b → Kept l n k a c
key_none l n k a b c e x =
    record { place = x.place; path = x.path; registered = x.registered; offered = x.offered; clocks = x.clocks; keys = inl e }

-- the key of the next step is offered
pub key_offered : (l : Lane) (n k : ℕ) (a b : Acknowledgement) → Kept l n k a b → Kept (lane_offered (key_of_step (suc k)) l) n (suc k) a b
unfolding lane_offered lane_with
key_offered l n k a b x =
    record { place = x.place; path = x.path; registered = x.registered; offered = each; clocks = x.clocks; keys = x.keys } where
      each : (i : ℕ) → i < length (l.keys.offers ++ (key_of_step (suc k) ∷ []))
          → OfStep (get_or (l.keys.offers ++ (key_of_step (suc k) ∷ [])) i []) (suc k)
      each i h = by_test (ltb i (length l.keys.offers)) refl where
        by_test : (t : Bool) → ltb i (length l.keys.offers) ≡ t → OfStep (get_or (l.keys.offers ++ (key_of_step (suc k) ∷ [])) i []) (suc k)
        by_test true e =
            let q = ltb-true i (length l.keys.offers) e in
            let o = x.offered i q in
            record {
              step = o.step;
              before = omega (arith, o.before);
              same = get_or-append l.keys.offers (key_of_step (suc k) ∷ []) [] i q ∙ o.same;
            }
        by_test false e =
            let q = ltb-false i (length l.keys.offers) e in
            let g = length-append l.keys.offers (key_of_step (suc k) ∷ []) in
            record {
              step = suc k;
              before = omega arith;
              same = get_or_at l.keys.offers (key_of_step (suc k)) [] [] i (omega (arith, q, g, h));
            }

-- what a call notes of the line
pub noted_either : (P : Lane → Type 0) (number : ℕ) (f : Lane → Lane) (l : Lane) → P l → P (f l) → P (noted number f l)
unfolding noted
noted_either P number f l x y = pick_holds P (accepted number) (f l) l (λ _. y) (λ _. x)

pub named_either : (P : Lane → Type 0) (number llid : ℕ) (f : Lane → Lane) (l : Lane) → P l → P (f l) → P (noted number (named llid f) l)
unfolding named
named_either P number llid f l x y = noted_either P number (named llid f) l x (pick_holds P _ (f l) l (λ _. y) (λ _. x))

pub noted_on : (number : ℕ) (f : Lane → Lane) (l : Lane) → number ≡ 0 → noted number f l ≡ f l
unfolding noted
noted_on number f l e = pick_true (f l) l (eq-eqb number 0 e)

own_llid-holds : has unit_identity unit_llid ≡ true
unfolding has llids_of among either
own_llid-holds = refl

pub unit_has : (l : Lane) → l.site ≡ site → has l.site.identity unit_llid ≡ true
unit_has l e = ap (λ (s : Site). has s.identity unit_llid) e ∙ own_llid-holds

pub named_on : (number : ℕ) (f : Lane → Lane) (l : Lane) → number ≡ 0 → l.site ≡ site → l.entry.registered ≡ true
    → noted number (named unit_llid f) l ≡ f l
unfolding named
named_on number f l e h r = noted_on number (named unit_llid f) l e ∙ pick_true (f l) l (both_true r (unit_has l h))
