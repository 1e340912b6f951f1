-- What a client asks fits.
use Rattle.std.specs.Prelude.{pos}
use Rattle.std.proofs.Common.{◌≡◌, ℕ, ◌+◌, ◌<◌, ◌≤◌, ◌^◌, ℤ, List, [], ◌∷◌, length, None, Bool, true, false, cond, refl, arith}
use Rattle.std.specs.List.{All}
use Rattle.std.proofs.lemmas.List.Elements.{All-nil, All-cons}
use Rattle.tl_types.specs.Values.{ValueView, int, long, call, ValueViews, no_values, value, values_of}
use Rattle.box_events.specs.declared.limits.TheConstants.{MAX_ASKS, MAX_CHANNELS}
use Rattle.box_events.specs.declared.requests.Request.TheVariants.{Difference, Channel}
use Rattle.channel_box.specs.States.{ChannelState}
use Rattle.channel_box.specs.Steps.{Ticked, ticked, and_asks, and_waits, channel_is_due, ask_of}
use Rattle.box_client.specs.States.{ClientState}
use Rattle.box_client.specs.Asking.{group_is_due, group_asks, difference_of, channels_ticked}
use Rattle.wire_forms.specs.Parts.{number}
use Rattle.wire_forms.specs.declared.numbers.TheConstants.{GET_DIFFERENCE, GET_CHANNEL_DIFFERENCE, INVOKE}
use Rattle.wire_values.specs.Calls.{call_tree}
use Rattle.wire_profile.specs.Causes.{broken}
use Rattle.wire_profile.specs.Clear.{IsClear}
use Rattle.wire_profile.specs.declared.rule.Rule.{Rule}
use Rattle.wire_profile.specs.declared.rule.Root.TheVariants.{Call}
use Rattle.wire_profile.proofs.ClearValues.{clear_call, clear_value}
use Rattle.wire_profile.proofs.RuleFacts.{no_call_cause}
use Rattle.box_world.specs.Fitting.{CallFits, IsNumber}
use Rattle.box_world.specs.FrameLaws.{AsksFit}
use Rattle.box_world.proofs.ClearUpdates.{unbroken, number_ok, date_ok}

invoke_clear : (n : ℕ) (v : ValueView) → IsNumber n → IsClear Call v → IsClear Call (call INVOKE (values_of (number n ∷ v ∷ [])))
invoke_clear n v num clear =
    let here : (rule : Rule) → broken rule INVOKE (values_of (number n ∷ v ∷ [])) ≡ None = unbroken INVOKE (values_of (number n ∷ v ∷ [])) refl (number_ok 1 n num.0 num.1) refl refl refl refl refl refl in
    clear_call Call INVOKE (values_of (number n ∷ v ∷ [])) (λ rule is. here rule) (clear_value Call (number n) (value v no_values) (λ rule is. refl) (clear_value Call v no_values clear (λ rule is. refl)))

difference_fits : (n : ℕ) (pts qts : ℤ) (date : ℕ) → IsNumber n → date < 2 ^ 31 → CallFits (record { number = n; request = Difference pts qts date })
difference_fits n pts qts date num low =
    let fields : ValueViews = values_of (int pts ∷ int qts ∷ number date ∷ []) in
    let here : (rule : Rule) → broken rule GET_DIFFERENCE fields ≡ None = unbroken GET_DIFFERENCE fields refl refl refl refl refl (date_ok date low) refl refl in
    no_call_cause (call_tree (record { number = n; request = Difference pts qts date })) refl (invoke_clear n (call GET_DIFFERENCE fields) num (clear_call Call GET_DIFFERENCE fields (λ rule is. here rule) (λ rule is. refl)))

channel_fits : (n : ℕ) (id pts : ℤ) → IsNumber n → CallFits (record { number = n; request = Channel id pts })
channel_fits n id pts num =
    let fields : ValueViews = values_of (long id ∷ int pts ∷ []) in
    let here : (rule : Rule) → broken rule GET_CHANNEL_DIFFERENCE fields ≡ None = unbroken GET_CHANNEL_DIFFERENCE fields refl refl refl refl refl refl refl refl in
    no_call_cause (call_tree (record { number = n; request = Channel id pts })) refl (invoke_clear n (call GET_CHANNEL_DIFFERENCE fields) num (clear_call Call GET_CHANNEL_DIFFERENCE fields (λ rule is. here rule) (λ rule is. refl)))

-- ---- a tick

over : (b : Bool) (n : ℕ) (c : ChannelState) (t u : Ticked) → IsNumber n → All CallFits t.asks → All CallFits u.asks → All CallFits (cond b (and_asks n c t) (and_waits c u)).asks
over true n c t u num fit other = All-cons CallFits (ask_of c n) t.asks (channel_fits n c.id (pos c.lane.at) num) fit
over false n c t u num fit other = other

channels_fit : (n : ℕ) (cs : List ChannelState) → 1 ≤ n → n + length cs < 2 ^ 31 → All CallFits (ticked n cs).asks
channels_fit n [] from to = All-nil CallFits
channels_fit n (c ∷ cs) from to = over (channel_is_due c) n c (ticked (n + 1) cs) (ticked n cs) (from, omega (arith, to)) (channels_fit (n + 1) cs (omega (arith, from)) (omega (arith, to))) (channels_fit n cs from (omega (arith, to)))

group_fits : (b : Bool) (c : ClientState) → 1 ≤ c.next → c.next + MAX_ASKS < 2 ^ 31 → c.settings.date < 2 ^ 31 → length c.channels ≤ MAX_CHANNELS
    → All CallFits (channels_ticked (cond b (record { client = group_asks c; asks = difference_of c ∷ [] }) (record { client = c; asks = [] }))).asks
group_fits true c from to low few =
    All-cons CallFits (difference_of c) (ticked (c.next + 1) c.channels).asks (difference_fits c.next (pos c.common.at) (pos c.secret.at) c.settings.date (from, omega (arith, to)) low) (channels_fit (c.next + 1) c.channels (omega (arith, from)) (omega (arith, to, few)))
group_fits false c from to low few = channels_fit c.next c.channels from (omega (arith, to, few))

pub asks_fit : AsksFit
asks_fit c from to low few = group_fits (group_is_due c) c from to low few
