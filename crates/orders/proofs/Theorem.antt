-- Two calls of different parties may change places (02, C-22): each is its party's decision put in its place, and neither decision sees the
-- other's place or channel. Assumes nothing.
use mathlib.Core.Path.{◌≡◌, refl, sym, ap, ap₂, ◌∙◌, subst}
use mathlib.Core.Bool.{true, false}
use borrow.Author.Tests.{eqb-false, ne_eqb}
use Rattle.octets.proofs.Choice.{either_false}
use Rattle.ends.specs.Records.{with_channels}
use Rattle.ends.specs.declared.Channels.{Channels}
use Rattle.group_protocol.specs.Head.{valid_head}
use Rattle.group_protocol.specs.declared.HeadEnd.{HeadEnd}
use Rattle.headend.proofs.HeadSteps.{valid_after_acknowledge, valid_after_capture, valid_after_clock_send, valid_after_measure, valid_after_offer, valid_after_receive, valid_after_retry, valid_after_send}
use Rattle.orders.specs.Calls.{Call, Made, Told, after, made, capture, measure, clock_send, offer, retry, acknowledge, send, receive}
use Rattle.orders.specs.EitherOrder.{EitherOrder}
use Rattle.orders.specs.Parties.{Party, excepted, group, member_of, nobody, one_channel, party_of, same_party, taking_of, unit}
use Rattle.orders.proofs.Decisions.{Decided, Own, Seen, decided, made_by, own_of, put, seen, shape}
use Rattle.orders.proofs.Frames.{accepts, alike_itself, channel_sym, decided_fits, decided_framed, decided_kept, taken_alike, taken_apart, taken_if}
use Rattle.orders.proofs.Made.{made_decided}
use Rattle.orders.proofs.Others.{put_own, put_party, put_seen, put_twice}

-- a valid head end stays valid
after_valid : (h : HeadEnd) (c : Call) → valid_head h ≡ true → valid_head (after h c) ≡ true
unfolding made
after_valid h (capture llid) v = valid_after_capture h v llid
after_valid h (measure llid trip) v = valid_after_measure h v llid trip
after_valid h (clock_send llid) v = valid_after_clock_send h v llid
after_valid h (offer llid key) v = valid_after_offer h v llid key
after_valid h (retry llid) v = valid_after_retry h v llid
after_valid h (acknowledge llid answer) v = valid_after_acknowledge h v llid answer
after_valid h (send llid channel payload output) v = valid_after_send h v llid channel payload output
after_valid h (receive header payload output) v = valid_after_receive h v header payload output

module _ (h : HeadEnd) (c : Call) where
  -- the party's decision on the head end as it was lent
  abbrev decision : Decided (Own (party_of h c)) (shape c).Handed
  decision = decided c (party_of h c) (seen h (party_of h c) c) (own_of h (party_of h c))

  -- the channels after it, from these
  abbrev channels_after : Channels → Channels
  channels_after e = taken_if (accepts decision.verdict) (taking_of c) h.olt.shared.tick e

  -- the head end after it
  abbrev leaves : HeadEnd
  leaves = put h (party_of h c) (channels_after h.olt.shared.channels) decision.own

  made_leaves : valid_head h ≡ true → made h c ≡ record { told = (shape c).tell decision.verdict decision.handed; head = leaves }
  unfolding with_channels
  made_leaves v =
      let p = party_of h c in
      made_decided h c v p refl
      ∙ ap (made_by h c p) (decided_framed c p (seen h p c) (own_of h p) h.olt.shared.channels (alike_itself (taking_of c) h.olt.shared.channels))

---- one call after another

module _ (h : HeadEnd) (x y : Call) (valid : valid_head h ≡ true) (different : same_party (party_of h x) (party_of h y) ≡ false)
    (apart : member_of h (party_of h x) (party_of h y) ≡ false) (channels : one_channel (taking_of x) (taking_of y) ≡ false) where
  -- the second decides as if it were alone
  second_made : made (after h x) y
      ≡ record {
        told = (shape y).tell (decision h y).verdict (decision h y).handed;
        head = put (leaves h x) (party_of h y) (channels_after h y (channels_after h x h.olt.shared.channels)) (decision h y).own;
      }
  second_made =
      let p = party_of h x in
      let q = party_of h y in
      let c = h.olt.shared.channels in
      let e : after h x ≡ leaves h x = ap (λ (m : Made). m.head) (made_leaves h x valid) in
      let kept = decided_kept x p (seen h p x) (own_of h p) in
      let after = channels_after h x c in
      ap (λ (k : HeadEnd). made k y) e
      ∙ made_decided (leaves h x) y (subst (λ (k : HeadEnd). valid_head k ≡ true) e (after_valid h x valid)) q
      (put_party h p after (decision h x).own kept y)
      ∙ ap₂ (λ (s : Seen) (o : Own q). made_by (leaves h x) y q (decided y q s o)) (put_seen h p q after (decision h x).own y kept different apart)
      (put_own h p q after (decision h x).own different)
      ∙ ap (made_by (leaves h x) y q)
      (decided_framed y q (seen h q y) (own_of h q) after
      (taken_alike h.olt.shared.tick c (accepts (decision h x).verdict) (taking_of x) (taking_of y)
      (decided_fits x p (seen h p x) (own_of h p)) channels))

---- either order

same_sym : (p q : Party) → same_party p q ≡ false → same_party q p ≡ false
unfolding same_party
same_sym (unit i) (unit j) e = ne_eqb j i (λ q. eqb-false i j e (sym q))
same_sym (unit i) (group j) e = refl
same_sym (unit i) nobody e = refl
same_sym (group i) (unit j) e = refl
same_sym (group i) (group j) e = ne_eqb j i (λ q. eqb-false i j e (sym q))
same_sym (group i) nobody e = refl
same_sym nobody (unit j) e = refl
same_sym nobody (group j) e = refl
same_sym nobody nobody e = refl

pub either_order : EitherOrder
unfolding excepted
either_order h x y valid different none =
    let p = party_of h x in
    let q = party_of h y in
    let c = h.olt.shared.channels in
    let a = either_false _ _ none in
    let b = either_false _ _ a.1 in
    let xy = second_made h x y valid different b.0 a.0 in
    let yx = second_made h y x valid (same_sym p q different) b.1 (channel_sym _ _ a.0) in
    let told : Made → Told = λ m. m.told in
    let head : Made → HeadEnd = λ m. m.head in
    record {
      head =
          ap head xy
          ∙ put_twice h p q (channels_after h x c) (channels_after h y c) (channels_after h y (channels_after h x c)) (decision h x).own
          (decision h y).own different
          ∙ ap (λ (e : Channels). put (leaves h y) p e (decision h x).own)
          (taken_apart h.olt.shared.tick c (accepts (decision h x).verdict) (accepts (decision h y).verdict) (taking_of x) (taking_of y)
          (decided_fits x p (seen h p x) (own_of h p)) (decided_fits y q (seen h q y) (own_of h q)) a.0)
          ∙ sym (ap head yx);
      first = ap told (made_leaves h x valid) ∙ sym (ap told yx);
      second = ap told xy ∙ sym (ap told (made_leaves h y valid));
    }
