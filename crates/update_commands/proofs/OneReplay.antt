-- What a replay answers is one.
use Rattle.std.proofs.Common.{◌≡◌, ℕ, List, Some, Bool, true, false, cond, refl, sym, ap, ap₂, ◌∙◌, subst}
use Rattle.tl_numbers.specs.Bytes.{AreBytes}
use Rattle.box_events.specs.declared.steps.Step.{Step}
use Rattle.wire_profile.specs.Indexes.{ProfileView}
use Rattle.wire_profile.specs.Profiles.{IsProfile}
use Rattle.wire_profile.specs.declared.wire_fault.WireFault.{WireFault}
use Rattle.outside.specs.Answer.{Answer}
use Rattle.update_replay.specs.Endings.{Ending, whole, no_step, not_made, too_long}
use Rattle.update_replay.specs.Replays.{Replayed, no_step_follows, one_too_many, not_possible, at_its_end, goes_on, seen_of}
use Rattle.update_replay.proofs.OneReplay.{replays_once}
use Rattle.update_replay.proofs.EachReplay.{each_replayed}
use Rattle.update_commands.specs.Replay.{ending_answer, OfJournal}

-- ---- an ending's answer

pub some_is : {A : Type 0} (x y : A) → Some x ≡ Some y → x ≡ y
some_is x y e = cc

-- what it writes is what the replay wrote
pub output_is : (output : List ℕ) (ending : Ending) (a : Answer) → ending_answer output ending ≡ Some a → a.output ≡ output
output_is output (whole k) a e = sym (ap (λ (x : Answer). x.output) (some_is _ _ e))
output_is output (no_step at fault) a e = sym (ap (λ (x : Answer). x.output) (some_is _ _ e))
output_is output (not_made at cause) a e = sym (ap (λ (x : Answer). x.output) (some_is _ _ e))
output_is output (too_long at) a e = sym (ap (λ (x : Answer). x.output) (some_is _ _ e))

abbrev Told : List ℕ → Ending → Type 0
Told output ending = (a : Answer) × (ending_answer output ending ≡ Some a)

refusal_told : (output : List ℕ) (b : Bool) (at : ℕ) (fault : WireFault) → Told output (cond b (too_long at) (no_step at fault))
refusal_told output true at fault = (_, refl)
refusal_told output false at fault = (_, refl)

-- ---- a journal

module _ (p : ProfileView) (n : ℕ) (journal : List ℕ) where
  -- each ending of a replay is told
  pub ending_told : (ss : List Step) (output : List ℕ) (ending : Ending) → Replayed p n journal ss output ending → (a : Answer) × (ending_answer output ending ≡ Some a)
  ending_told ss output ending (no_step_follows at left fault began none is) = subst (Told output) (sym is) (refusal_told output _ at fault)
  ending_told ss output ending (one_too_many at left s x rest began begins most is) = subst (Told output) (sym is) (_, refl)
  ending_told ss output ending (not_possible at left s x rest cause began begins few refused is) = subst (Told output) (sym is) (_, refl)
  ending_told ss output ending (at_its_end at lines began ended written is) = subst (Told output) (sym is) (_, refl)

  pub answered : (ss : List Step) (output : List ℕ) (ending : Ending) → Replayed p n journal ss output ending → (a : Answer) × OfJournal p n journal a × (a.output ≡ output)
  answered ss output ending r =
      let told = ending_told ss output ending r in
      (told.0, record { steps = ss; output = output; ending = ending; replayed = r; answered = told.1 }, output_is output ending told.0 told.1)

  module _ (good : IsProfile p) (are : AreBytes (seen_of journal)) where
    pub one_journal : (a b : Answer) → OfJournal p n journal a → OfJournal p n journal b → a ≡ b
    one_journal a b h k =
        let one = replays_once p good n (seen_of journal) are (goes_on journal) h.steps k.steps h.output k.output h.ending k.ending h.replayed k.replayed in
        some_is a b (sym h.answered ∙ ap₂ ending_answer one.1 one.2 ∙ k.answered)

    pub each_journal : (ss : List Step) × (output : List ℕ) × (ending : Ending) × Replayed p n journal ss output ending
    each_journal = each_replayed p good n (seen_of journal) (goes_on journal) are
