-- A unit that overhears the envelope of another, sent to it or by it, refuses it and stays as it was. Assumes nothing.
use Rattle.std.specs.Prelude.{Err}
use mathlib.Core.Path.{◌≡◌, refl, sym, ◌∙◌, ap}
use mathlib.Core.Bool.{Bool, true, false}
use mathlib.Core.List.{List, Memᴰ}
use Prim.Native.Nat.{ℕ}
use Rattle.octets.proofs.Choice.{not_of_true}
use Rattle.octets.proofs.Members.{mem_at}
use Rattle.octets.specs.Output.{with_output}
use Rattle.refusal.specs.declared.Refusal.TheVariants.{OutOfRange, BadLength}
use Rattle.protocol.specs.Headers.{valid_header, envelope_header}
use Rattle.ends.specs.Identities.{has}
use Rattle.envelope.specs.Channels.{downstream, upstream}
use Rattle.protocol.specs.OnuTraffic.{onu_receive_verdict}
use Rattle.refusal.specs.Order.{refuse_if}
use Rattle.ends.specs.Table.{unit_at}
use Rattle.protocol.specs.declared.Header.{Header}
use Rattle.ends.specs.declared.Onu.{Onu}
use Rattle.ends.specs.declared.Shared.{Shared}
use Rattle.ends.specs.declared.UnitRecord.{UnitRecord}
use Rattle.protocol.proofs.Headers.{header_valid}
use Rattle.protocol.proofs.OnuTraffic.{overheard_down-holds, overheard_up-holds}
use Rattle.refusal.proofs.Order.{refuse_passed}
use Rattle.traffic.specs.Passages.{misfit}
use Rattle.traffic.specs.Receipts.{onu_not_received}
use Rattle.traffic.proofs.Receipts.{onu_receive_refused}
use Rattle.unicast.specs.Setting.{Setting}
use Rattle.unicast.specs.History.{Direction, downward, upward, Envelope, Lane}
use Rattle.unicast.specs.Run.{State, lane_at, onu_at, no_envelope, sent_at, overhearing}
use Rattle.unicast.specs.Premises.{Overhears}
use Rattle.unicast.specs.Claim.{SentRight, overheard_for}
use Rattle.unicast.proofs.Invariant.{Joined, Invariant}
use Rattle.unicast.proofs.Alive.{registered_alive, sent_alive, llid_apart}

-- what another lane sent, either way, where the unit does not have its LLID
overheard_verdict : (w : Setting) (sh : Shared) (now : ℕ) (l : Lane) (u : UnitRecord) (other o : Onu) (e : Envelope) (out : List ℕ)
    → Joined w sh now l u other → Memᴰ e l.past.sent → has o.identity e.llid ≡ false
    → onu_receive_verdict o (misfit e.octets out) e.header ≡ Err (overheard_for (misfit e.octets out) e.direction)
unfolding envelope_header refuse_if
overheard_verdict w sh now l u other o e out j m strange = by_direction e.direction refl ∙ by_buffer (misfit e.octets out) e.direction where
  right : SentRight w l e
  right = j.passing.sent e m

  by_direction : (x : Direction) → e.direction ≡ x
      → onu_receive_verdict o (misfit e.octets out) e.header ≡ refuse_if (misfit e.octets out) BadLength (Err (overheard_for false e.direction))
  by_direction downward q =
      rw q
      (overheard_down-holds o _ e.header (ap (λ (h : Header). downstream h.channel) right.header ∙ (j.spending.downs e m q).0)
      (ap valid_header right.header ∙ header_valid e.number e.channel e.llid _)
      (ap (λ (h : Header). has o.identity h.llid) right.header ∙ strange))
  by_direction upward q =
      rw q (overheard_up-holds o _ e.header (ap (λ (h : Header). upstream h.channel) right.header ∙ (j.spending.ups e m q).0))

  by_buffer : (t : Bool) (x : Direction) → refuse_if t BadLength (Err (overheard_for false x)) ≡ Err (overheard_for t x)
  by_buffer true x = refl
  by_buffer false x = refl

-- no LLID of another registered unit is the unit's
pub overheard_refused : (w : Setting) (s : State) → Invariant w s → (u other k : ℕ) (out : List ℕ) → Overhears s u other k
    → overhearing s u other k out
    ≡ with_output (onu_not_received (onu_at s u) (overheard_for (misfit (sent_at s other k).octets out) (sent_at s other k).direction)) out
overheard_refused w s v u other k out h =
    let r = registered_alive w s u v h.registered in
    let e = sent_at s other k in
    let m = mem_at (lane_at s other).past.sent k no_envelope h.some in
    let q = sent_alive w s other v e m in
    let strange : has (onu_at s u).identity e.llid ≡ false =
    not_true_false _ (λ t.
    h.apart (llid_apart w s u other e.llid v r q (sym (r.common.llids e.llid) ∙ t) (q.joined.passing.named e m))) in
    let refused =
    overheard_verdict w s.olt.shared s.history.now (lane_at s other) (unit_at s.olt (lane_at s other).entry.place) (onu_at s other) (onu_at s u) e out
    q.joined m strange in
    sym (onu_receive_refused (onu_at s u) e.header e.octets out _ (refuse_passed _ OutOfRange _ (not_of_true r.common.valid) ∙ refused)) where
      not_true_false : (b : Bool) → (b ≡ true → ⊥) → b ≡ false
      not_true_false true n = absurd (n refl)
      not_true_false false n = refl
