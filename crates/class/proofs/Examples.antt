-- The two inputs of Secrecy are such a pair: each fact is computed. Assumes nothing.
use Rattle.std.specs.Prelude.{Ok}
use mathlib.Core.Path.{◌≡◌, refl, sym, ap, ◌∙◌}
use mathlib.Core.Bool.{true, false}
use Prim.Native.Nat.{ℕ, zero, suc, ◌<◌}
use native.Mathlib.Omega.{arith}
use lib.ListN.{get_or, take}
use Rattle.octets.specs.Bits.{bit_of, low_cleared}
use Rattle.octets.specs.Choice.{both, either, pick}
use Rattle.octets.specs.Each.{each}
use Rattle.octets.specs.Lists.{all}
use Rattle.octets.proofs.Choice.{true_false, pick_false}
use Rattle.refusal.specs.Order.{refuse_if}
use Rattle.envelope.specs.Channels.{downstream, upstream, channel_fits}
use Rattle.records.specs.Settings.{llid_of, presence_of, presence_fits}
use Rattle.records.specs.Record.{record_header, sized}
use Rattle.records.specs.Place.{end_fits}
use Rattle.records.specs.Verdict.{enc_enabled, flags_fit, header_fits, key_verdict, in_order, record_verdict}
use Rattle.records.specs.Near.{nearest, heard_at, heard, judged}
use Rattle.records.specs.Block.{directory_octets, records_in, offset_of, length_of, end_of, due_of, record_of}
use Rattle.records.specs.Following.{header_of}
use Rattle.directory.specs.Directory.{chained, pair_of, size_fits, with_pair, pairs_from, directory_of}
use Rattle.rights.specs.declared.judging.ClassVerdict.TheVariants.{Hidden, Told}
use Rattle.records.specs.declared.near.Heard.{Heard}
use Rattle.rights.specs.declared.judging.ClassVerdict.{ClassVerdict}
use Rattle.rights.specs.Judging.{told_to, judged_for}
use Rattle.rights.specs.Settings.{set_of, set_from, own_rights, rights_on}
use Rattle.rights.specs.Rights.{rights_fit, may_open, may_see}
use Rattle.rights.specs.Verdict.{user_fits, counts_fit, presences_fit, llids_differ, class_verdict}
use Rattle.class.specs.Reading.{drift_for, told_of, call_for}
use Rattle.class.specs.Secrecy.{example, first_sets, second_sets, first_rights, second_rights, first_block, second_block, Example}
use Rattle.records.specs.declared.header.Access.TheVariants.{Clear}
use Rattle.refusal.specs.Verdict.{no_refusal}

settings : (class_verdict true true example first_sets first_rights ≡ no_refusal)
    × (class_verdict true true example second_sets second_rights ≡ no_refusal)
unfolding class_verdict user_fits counts_fit presences_fit llids_differ rights_fit each all both refuse_if pick set_from presence_fits
    presence_of llid_of bit_of low_cleared
settings = (refl, refl)

directories : (directory_of first_block ≡ Ok 2) × (directory_of second_block ≡ Ok 2)
unfolding directory_of pairs_from with_pair pair_of chained size_fits sized records_in offset_of length_of end_of due_of record_of
    record_header end_fits both either pick
directories = (refl, refl)

not_second : may_see (get_or (own_rights example first_rights) 1 0) ≡ false
unfolding own_rights may_see may_open either bit_of
not_second = refl

own_same : own_rights example first_rights ≡ own_rights example second_rights
unfolding own_rights
own_same = refl

same_directory : take (directory_octets (records_in first_block)) first_block ≡ take (directory_octets (records_in first_block)) second_block
unfolding records_in
same_directory = refl

two : (P : ℕ → Type 0) → P 0 → P 1 → (j : ℕ) → j < 2 → P j
two P x y zero h = x
two P x y (suc zero) h = y
two P x y (suc (suc j)) h = absurd (omega arith)

same_llids : (j : ℕ) → j < 2 → llid_of (set_of first_sets j) ≡ llid_of (set_of second_sets j)
unfolding llid_of
same_llids = two _ refl refl

same_sets : (j : ℕ) → j < 2 → may_see (get_or (own_rights example first_rights) j 0) ≡ true → set_of first_sets j ≡ set_of second_sets j
same_sets = two _ (λ e. refl) (λ e. true_false (sym e ∙ not_second))

two_records : records_in first_block ≡ 2
unfolding records_in
two_records = refl

same_headers : (i : ℕ) → i < 2 → (header_of first_block i).llid ≡ (header_of second_block i).llid
unfolding record_of offset_of length_of record_header
same_headers = two _ refl refl

second_hides : may_see (rights_on example first_sets first_rights (header_of first_block 1).llid) ≡ false
unfolding record_of offset_of length_of record_header own_rights set_from llid_of pick may_see may_open either bit_of
second_hides = refl

same_records-holds : (i : ℕ) → i < 2 → may_see (rights_on example first_sets first_rights (header_of first_block i).llid) ≡ true
    → record_of first_block i ≡ record_of second_block i
unfolding record_of offset_of length_of
same_records-holds = two _ (λ e. refl) (λ e. true_false (sym e ∙ second_hides))

first_told : told_of true example first_sets first_rights first_block 0 ≡ Told (Ok Clear)
unfolding told_of drift_for judged_for told_to judged heard heard_at nearest record_verdict in_order key_verdict header_fits channel_fits
    downstream upstream flags_fit
    enc_enabled low_cleared bit_of record_of offset_of length_of record_header own_rights set_from llid_of presence_of may_see may_open both either pick
first_told = refl

second_hidden : told_of true example first_sets first_rights first_block 1 ≡ Hidden
unfolding told_of judged_for
second_hidden = ap (λ (x : Heard ClassVerdict). x.verdict) (pick_false _ _ second_hides)

pub pair : Example
unfolding call_for record_of offset_of length_of
pair =
    record {
      first = rw (settings.0, directories.0);
      second = rw (settings.1, directories.1);
      alike = record {
        own = own_same;
        llids = same_llids;
        sets = same_sets;
        directory = same_directory;
        headers = λ i h. same_headers i (rw (← two_records) h);
        records = λ i h. same_records-holds i (rw (← two_records) h);
      };
      keys = λ e. omega arith;
      rights = λ e. omega arith;
      octets = λ e. omega arith;
      told = first_told;
      hidden = second_hidden;
    }
