-- Laws of an output that octets are moved into: each is right when it is written, and no later one spoils it. Assumes nothing.
use Rattle.std.proofs.Common.{◌≡◌, Bool, true, false, List, ℕ, ◌+◌, ◌*◌, ◌<◌, length, get_or, refl, sym, ◌∙◌, arith, add_assoc}
use Rattle.std.proofs.lemmas.Grind.{common_steps}
use lib.ListN.{set, length-set}
use Rattle.octets.specs.Eqs.{eq_octets}
use Rattle.planes.specs.Duties.{Sized, Moved}
use Rattle.planes.specs.Places.{place_in_eqs, place_in_planes, target}
use Rattle.planes.specs.Planes.{moved}
use Rattle.planes.proofs.Places.{inside}
use Rattle.planes.proofs.Planes.{moved_length, moved_octet, same_octets}

-- octet c of EQ e, written at its place k
written : (r out : List ℕ) (place : ℕ → ℕ → ℕ) (c e k v : ℕ) → place c e ≡ k → k < length out → v ≡ get_or r k 0
    → Moved r out (set out k v) place c (c + 1) e (e + 1)
written r out place c e k v at inside value =
    record {
      size = length-set out k v;
      kept = λ j h. grind (arith, common_steps);
      right = λ i x a b f g. grind (arith, common_steps);
    }

-- as the code moves it, into the planes or back
module _ (p out : List ℕ) (n c e : ℕ) (size : Sized p out n) (octet : c < eq_octets) (eq : e < n) (back : Bool) where
  pub rearranged_one : back ≡ false → Moved (moved back p) out (set out (n * c + e) (get_or p (eq_octets * e + c) 0)) (target back n) c (c + 1) e (e + 1)
  rearranged_one way =
      rw way
      (written (moved false p) out (place_in_planes n) c e _ _ refl (omega (arith, inside false n c e octet eq))
      (sym (moved_octet false p n size.read c e octet eq)))

  pub restored_one : back ≡ true → Moved (moved back p) out (set out (eq_octets * e + c) (get_or p (n * c + e) 0)) (target back n) c (c + 1) e (e + 1)
  restored_one way = rw way (written (moved true p) out place_in_eqs c e _ _ refl (omega arith) (sym (moved_octet true p n size.read c e octet eq)))

-- octets c up to c', then c' up to c'', of the same EQs
pub more_octets : {r a b d : List ℕ} {place : ℕ → ℕ → ℕ} {c c' c'' e e' : ℕ} → Moved r a b place c c' e e'
    → Moved r b d place c' c'' e e'
    → Moved r a d place c c'' e e'
more_octets m w =
    record {
      size = w.size ∙ m.size;
      kept = λ k h. w.kept k (m.kept k h);
      right = λ i x f g h k. grind (arith, m.right i x f, w.right i x, w.kept);
    }

-- EQs e up to e', then e' up to e'', the same octets
pub more_eqs : {r a b d : List ℕ} {place : ℕ → ℕ → ℕ} {c c' e e' e'' : ℕ} → Moved r a b place c c' e e'
    → Moved r b d place c c' e' e''
    → Moved r a d place c c' e e''
more_eqs m w =
    record {
      size = w.size ∙ m.size;
      kept = λ k h. w.kept k (m.kept k h);
      right = λ i x f g h k. grind (arith, m.right i x f g h, w.right i x f g, w.kept);
    }

-- a turn of the loop: three octets of EQ e
pub turn : {r a b₀ b₁ b₂ b₃ : List ℕ} {place : ℕ → ℕ → ℕ} {c from e : ℕ} → Moved r a b₀ place c (c + 3) from e
    → Moved r b₀ b₁ place c (c + 1) e (e + 1)
    → Moved r b₁ b₂ place (c + 1) (c + 1 + 1) e (e + 1)
    → Moved r b₂ b₃ place (c + 2) (c + 2 + 1) e (e + 1)
    → Moved r a b₃ place c (c + 3) from (e + 1)
turn m u v w = more_eqs m (more_octets (more_octets u (simp add_assoc at v)) (simp add_assoc at w))

-- all octets of all EQs are moved
pub all_moved : (back : Bool) (p out out' : List ℕ) (n : ℕ) → Sized p out n → Moved (moved back p) out out' (target back n) 0 eq_octets 0 n
    → out' ≡ moved back p
all_moved back p out out' n size m =
    same_octets back n out' (moved back p) (m.size ∙ size.room) (moved_length back p ∙ size.read) (λ c e h k. m.right c e (omega arith) h (omega arith) k)
