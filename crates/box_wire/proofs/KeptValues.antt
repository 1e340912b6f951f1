-- A message keeps all of a value that breaks no rule of frames.
use Rattle.std.specs.Prelude.{◌==◌, ◌||◌, ◌&&◌, IsTrue}
use Rattle.std.proofs.Common.{◌≡◌, ℕ, None, Bool, true, false, refl, subst}
use Rattle.tl_types.specs.Values.{ValueView, int, long, nat, opaque, text, truth, absent, list, node, call, ValueViews, no_values, value, count}
use Rattle.wire_forms.specs.Parts.{at, parts_of, entry_of, word_of}
use Rattle.wire_forms.specs.declared.numbers.TheConstants.{UPDATE_EDIT_MESSAGE, UPDATE_DELETE_MESSAGES, UPDATE_SETTING, UPDATE_READ_HISTORY, DIFFERENCE, DIFFERENCE_SLICE, CHANNEL_DIFFERENCE}
use Rattle.wire_values.specs.Others as values
use Rattle.wire_values.specs.Kept.{CountsIds, IsKept, AllKept, EachKept}
use Rattle.wire_profile.specs.Ranges.{not_of_ids, are_few}
use Rattle.wire_profile.specs.Updates.{wrong_update}
use Rattle.wire_profile.specs.Rules.{count_fault, update_fault}
use Rattle.wire_profile.specs.Clear.{IsClear, AreClear}
use Rattle.wire_profile.specs.declared.rule.Rule.TheVariants.{Count, Update}
use Rattle.wire_profile.specs.declared.rule.Root.TheVariants.{Frame}
use Rattle.wire_profile.proofs.ClearValues.{holds, clear_here, clear_fields, call_here, call_fields, clear_first, clear_rest}
use Rattle.wire_profile.proofs.RuleFacts.{AreOther, left_true, both_true, one_is, ids_are, others_are}

counts_ids : (ids pts stated : ValueView) → not_of_ids ids pts stated ≡ None → CountsIds ids (word_of stated)
counts_ids ids pts stated e = (left_true (are_few (count (parts_of ids))) (word_of stated == count (parts_of ids)) (holds _ _ e), (ids_are ids pts stated e).2)

other_again : (a b c d : Bool) → (a || (b || (c || d))) ≡ true → ((a || (b || c)) || d) ≡ true
other_again true b c d e = refl
other_again false true c d e = refl
other_again false false true d e = refl
other_again false false false d e = e

others_again : (with_settings : Bool) (vs : ValueViews) → AreOther with_settings vs → values.are_others with_settings vs ≡ true
others_again s no_values o = refl
others_again s (value v vs) o =
    both_true (values.is_other v || (s && values.is_setting v)) (values.are_others s vs)
    (other_again (entry_of v == UPDATE_EDIT_MESSAGE) (entry_of v == UPDATE_DELETE_MESSAGES) (entry_of v == UPDATE_READ_HISTORY) (s && (entry_of v == UPDATE_SETTING)) o.0) (others_again s vs o.1)

others_kept : (with_settings : Bool) (v : ValueView) → wrong_update with_settings v ≡ None → IsTrue (values.are_others with_settings (parts_of v))
others_kept s v e = others_again s (parts_of v) (others_are s v e)

count_at : (k n : ℕ) (ts : ValueViews) → count_fault k ts ≡ None → k ≡ n → count_fault n ts ≡ None
count_at k n ts c is = subst (λ (j : ℕ). count_fault j ts ≡ None) is c

update_at : (k n : ℕ) (ts : ValueViews) → update_fault k ts ≡ None → k ≡ n → update_fault n ts ≡ None
update_at k n ts u is = subst (λ (j : ℕ). update_fault j ts ≡ None) is u

-- a record, whose updates may stand where it is a difference
pub record_kept : (k : ℕ) (ts : ValueViews) → count_fault k ts ≡ None → (k ≡ DIFFERENCE → wrong_update true (at 2 ts) ≡ None) → (k ≡ DIFFERENCE_SLICE → wrong_update false (at 2 ts) ≡ None) → (k ≡ CHANNEL_DIFFERENCE → wrong_update false (at 4 ts) ≡ None) → IsKept k ts
record_kept k ts c difference slice channel =
    record {
      new = λ is. one_is (at 1 ts) (at 2 ts) (count_at k _ ts c is);
      edit = λ is. one_is (at 1 ts) (at 2 ts) (count_at k _ ts c is);
      delete = λ is. counts_ids (at 0 ts) (at 1 ts) (at 2 ts) (count_at k _ ts c is);
      read = λ is. one_is (at 1 ts) (at 2 ts) (count_at k _ ts c is);
      channel_new = λ is. one_is (at 2 ts) (at 3 ts) (count_at k _ ts c is);
      channel_edit = λ is. one_is (at 2 ts) (at 3 ts) (count_at k _ ts c is);
      channel_delete = λ is. counts_ids (at 1 ts) (at 2 ts) (at 3 ts) (count_at k _ ts c is);
      channel_read = λ is. one_is (at 2 ts) (at 3 ts) (count_at k _ ts c is);
      saved_delete = λ is. holds (are_few (count (parts_of (at 0 ts)))) _ (count_at k _ ts c is);
      difference = λ is. others_kept true (at 2 ts) (difference is);
      slice = λ is. others_kept false (at 2 ts) (slice is);
      channel_difference = λ is. others_kept false (at 4 ts) (channel is);
    }

frame_kept : (k : ℕ) (ts : ValueViews) → count_fault k ts ≡ None → update_fault k ts ≡ None → IsKept k ts
frame_kept k ts c u =
    record_kept k ts c (λ is. update_at k _ ts u is) (λ is. update_at k _ ts u is) (λ is. update_at k _ ts u is)

mutual
  pub all_kept : (t : ValueView) → IsClear Frame t → AllKept t
  all_kept (int z) c = tt
  all_kept (long z) c = tt
  all_kept (nat n) c = tt
  all_kept (opaque x) c = tt
  all_kept (text x) c = tt
  all_kept truth c = tt
  all_kept absent c = tt
  all_kept (list ts) c = each_kept ts c
  all_kept (node k ts) c = (frame_kept k ts (clear_here Frame k ts c Count refl) (clear_here Frame k ts c Update refl), each_kept ts (clear_fields Frame k ts c))
  all_kept (call k ts) c = (frame_kept k ts (call_here Frame k ts c Count refl) (call_here Frame k ts c Update refl), each_kept ts (call_fields Frame k ts c))

  each_kept : (ts : ValueViews) → AreClear Frame ts → EachKept ts
  each_kept no_values c = tt
  each_kept (value t ts) c = (all_kept t (clear_first Frame (value t ts) c), each_kept ts (clear_rest Frame (value t ts) c))
