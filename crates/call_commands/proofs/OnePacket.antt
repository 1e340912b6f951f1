-- A packet's content is told, or refused for one cause: one of the two, and in one way.
use Rattle.std.proofs.Common.{◌≡◌, ◌≢◌, ◌⊎◌, inl, inr, ℕ, zero, suc, ◌+◌, ◌<◌, ◌≤◌, ◌^◌, List, [], ◌++◌, length, length-append, Option, Some, None, Bool, true, false, true≢false, refl, sym, ap, ◌∙◌, subst, arith}
use Rattle.std.proofs.lemmas.Bool.{cases_eq, cases_lt}
use Rattle.tl_numbers.specs.Bytes.{AreBytes}
use Rattle.tl_numbers.specs.Numbers.{word}
use Rattle.tl_schema.specs.Types as type
use Rattle.tl_schema.specs.Schemas.{Declared}
use Rattle.tl_schema.specs.CheckedPrograms.{IsSchema}
use Rattle.tl_schema.proofs.ResultsFormed.{results_are_formed}
use Rattle.tl_types.specs.Values.{ValueView}
use Rattle.tl_types.specs.Exactly.{ExactlyOne}
use Rattle.tl_types.specs.declared.value.TheConstants.{MAX_LEVELS}
use Rattle.tl_types.proofs.Exactly.{exactly_one}
use Rattle.tl_types.proofs.Numbers.{begins_word, bytes_after, same_number}
use Rattle.tl_types.proofs.Numbers as words
use Rattle.tl_calls.specs.Results.{result_type, HasResult, ResultHas, TellsCause}
use Rattle.tl_calls.specs.Events.{Logged, Log, sent, came, sent_in, call_in, is_given, open_in, IsOpen, IsAnswer}
use Rattle.tl_calls.specs.declared.calls.TheConstants.{MAX_OPEN}
use Rattle.tl_calls.specs.declared.fault.ResultCause.{ResultCause}
use Rattle.tl_calls.proofs.Answered.{answered_in_formed}
use Rattle.call_commands.specs.CallReports.{IsWhole, NoWhole, Tells, call, answer, stale, ContentRefused, no_number, no_call, full, no_result, no_answer, call_line, answer_line, stale_line, result_cause_name}
use Rattle.call_commands.proofs.ResultCauses.{cause_told, never_cause, one_cause}
use Rattle.call_commands.proofs.Wholes.{one_whole, never_whole, one_fault, whole_or_fault}

some_is : {A : Type 0} (x y : A) → Some x ≡ Some y → x ≡ y
some_is x y e = cc

none_some : {A : Type 0} (x : A) → None ≡ Some x → ⊥
none_some x e = cc

one_open : (past : Log) (n : ℕ) (c d : ValueView) → IsOpen past n c → IsOpen past n d → c ≡ d
one_open past n c d here also = some_is c d (sym here.sent ∙ also.sent)

none_zero : (past : Log) (n : ℕ) (c : ValueView) → 0 ≡ n → IsOpen past n c → ⊥
none_zero past zero c is here = none_some c here.sent
none_zero past (suc n) c is here = omega (arith, is)

-- the call with this number is open, or none is
open_or_none : (past : Log) (n : ℕ) → ((c : ValueView) × IsOpen past n c) ⊎ ((c : ValueView) → IsOpen past n c → ⊥)
open_or_none past n = by (call_in past n) refl (is_given past n) refl
  where
    by : (o : Option ValueView) → call_in past n ≡ o → (t : Bool) → is_given past n ≡ t → ((c : ValueView) × IsOpen past n c) ⊎ ((c : ValueView) → IsOpen past n c → ⊥)
    by None e t f = inr (λ c here. none_some c (sym e ∙ here.sent))
    by (Some c) e true f = inr (λ d here. true≢false (sym f ∙ here.left))
    by (Some c) e false f = inl (c, record { sent = e; left = f })

-- ---- the first word

no_word : (content b : List ℕ) (n : ℕ) → content ≡ [] → content ≡ word n ++ b → ⊥
no_word content b n none is = omega (arith, ap length (sym none ∙ is), length-append (word n) b)

one_word : (content b d : List ℕ) (m n : ℕ) → m < 2 ^ 32 → n < 2 ^ 32 → content ≡ word m ++ b → content ≡ word n ++ d → (m ≡ n) × (b ≡ d)
one_word content b d m n few also is at = same_number m n b d few also (sym is ∙ at)

module _ (schema : Declared) (good : IsSchema schema) (past : Log) (proper : (n : ℕ) (c : ValueView) → IsOpen past n c → HasResult schema c) (content : List ℕ) (are : AreBytes content) where
  -- ---- values

  call_one : (b : List ℕ) → content ≡ word 0 ++ b → ExactlyOne schema MAX_LEVELS type.call b
  call_one b is = exactly_one schema good MAX_LEVELS type.call b tt (bytes_after content (word 0) b is are)

  answer_one : (n : ℕ) (b : List ℕ) (c : ValueView) → content ≡ word n ++ b → IsOpen past n c → ExactlyOne schema MAX_LEVELS (result_type schema.decls c) b
  answer_one n b c is here =
      exactly_one schema good MAX_LEVELS (result_type schema.decls c) b (answered_in_formed results_are_formed schema good c (proper n c here)) (bytes_after content (word n) b is are)

  -- ---- one class

  not_answer : (b d : List ℕ) (n : ℕ) (c : ValueView) → content ≡ word 0 ++ b → n < 2 ^ 32 → content ≡ word n ++ d → IsOpen past n c → ⊥
  not_answer b d n c is few at here = none_zero past n c (one_word content b d 0 n (omega arith) few is at).0 here

  not_stale : (b d : List ℕ) (n : ℕ) → content ≡ word 0 ++ b → n < 2 ^ 32 → n ≢ 0 → content ≡ word n ++ d → ⊥
  not_stale b d n is few some at = some (sym (one_word content b d 0 n (omega arith) few is at).0)

  not_open : (m n : ℕ) (b d : List ℕ) (c : ValueView) → m < 2 ^ 32 → n < 2 ^ 32 → content ≡ word m ++ b → content ≡ word n ++ d → IsOpen past m c → ((x : ValueView) → IsOpen past n x → ⊥) → ⊥
  not_open m n b d c few also is at here unsent = unsent c (subst (λ (k : ℕ). IsOpen past k c) (one_word content b d m n few also is at).0 here)

  -- ---- one value

  same_rest : (b d : List ℕ) → content ≡ word 0 ++ b → content ≡ word 0 ++ d → d ≡ b
  same_rest b d is at = sym (one_word content b d 0 0 (omega arith) (omega arith) is at).1

  same_call : (b d : List ℕ) (v w : ValueView) → content ≡ word 0 ++ b → content ≡ word 0 ++ d → IsWhole schema type.call b v → IsWhole schema type.call d w → v ≡ w
  same_call b d v w is at whole also = one_whole schema type.call b (call_one b is) v w whole (subst (λ (z : List ℕ). IsWhole schema type.call z w) (same_rest b d is at) also)

  never_call : (b d : List ℕ) (v : ValueView) (p : ℕ) (why : List ℕ) → content ≡ word 0 ++ b → content ≡ word 0 ++ d → IsWhole schema type.call b v → NoWhole schema type.call d p why → ⊥
  never_call b d v p why is at whole fault = never_whole schema type.call b (call_one b is) v p why whole (subst (λ (z : List ℕ). NoWhole schema type.call z p why) (same_rest b d is at) fault)

  same_call_fault : (b d : List ℕ) (p q : ℕ) (why more : List ℕ) → content ≡ word 0 ++ b → content ≡ word 0 ++ d → NoWhole schema type.call b p why → NoWhole schema type.call d q more → (p ≡ q) × (why ≡ more)
  same_call_fault b d p q why more is at fault also =
      one_fault schema type.call b (call_one b is) p q why more fault (subst (λ (z : List ℕ). NoWhole schema type.call z q more) (same_rest b d is at) also)

  -- two open calls that the content answers are one
  record SameAnswer (m n : ℕ) (b d : List ℕ) (c x : ValueView) : Type 0 where
    number : m ≡ n
    rest : d ≡ b
    call : x ≡ c

  same_answer : (m n : ℕ) (b d : List ℕ) (c x : ValueView) → m < 2 ^ 32 → n < 2 ^ 32 → content ≡ word m ++ b → content ≡ word n ++ d → IsOpen past m c → IsOpen past n x → SameAnswer m n b d c x
  same_answer m n b d c x few also is at here there =
      let both = one_word content b d m n few also is at in
      record { number = both.0; rest = sym both.1; call = one_open past m x c (subst (λ (k : ℕ). IsOpen past k x) (sym both.0) there) here }

  -- what holds of the other's bytes and result holds of these
  of_same : (m n : ℕ) (b d : List ℕ) (c x : ValueView) → SameAnswer m n b d c x → (P : List ℕ → ValueView → Type 0) → P d x → P b c
  of_same m n b d c x same P h = subst (λ (y : ValueView). P b y) same.call (subst (λ (z : List ℕ). P z x) same.rest h)

  -- ---- told in one way

  pub one_told : (e f : Logged) (line more : List ℕ) → Tells schema past content e line → Tells schema past content f more → (e ≡ f) × (line ≡ more)
  one_told e f line more (call v b is whole few has e_is told) (call w d at also less result f_is said) =
      let same = same_call b d v w is at whole also in
      (e_is ∙ ap {B = Logged} (λ (x : ValueView). (sent x, None)) same ∙ sym f_is, told ∙ ap (call_line schema (suc (length (sent_in past)))) same ∙ sym said)
  one_told e f line more (call v b is whole few has e_is told) (answer n d c w small at here spelled f_is said) = absurd (not_answer b d n c is small at here)
  one_told e f line more (call v b is whole few has e_is told) (stale n d small some at unsent f_is said) = absurd (not_stale b d n is small some at)
  one_told e f line more (answer n d c w small at here spelled e_is told) (call v b is whole few has f_is said) = absurd (not_answer b d n c is small at here)
  one_told e f line more (answer m b c v few is here spelled e_is told) (answer n d x w small at there also f_is said) =
      let same = same_answer m n b d c x few small is at here there in
      let value : v ≡ w = one_whole schema (result_type schema.decls c) b (answer_one m b c is here) v w spelled (of_same m n b d c x same (λ z y. IsAnswer schema y z w) also) in
      let event : ◌≡◌ {A = Logged} (came m b, Some v) (came n d, Some w) =
      ap {B = Logged} (λ (k : ℕ). (came k b, Some v)) same.number ∙ ap {B = Logged} (λ (z : List ℕ). (came n z, Some v)) (sym same.rest) ∙ ap {B = Logged} (λ (y : ValueView). (came n d, Some y)) value in
      let shown : answer_line schema m (result_type schema.decls c) v ≡ answer_line schema n (result_type schema.decls x) w =
      ap (λ (k : ℕ). answer_line schema k (result_type schema.decls c) v) same.number ∙ ap (λ (y : ValueView). answer_line schema n (result_type schema.decls y) v) (sym same.call) ∙ ap (answer_line schema n (result_type schema.decls x)) value in
      (e_is ∙ event ∙ sym f_is, told ∙ shown ∙ sym said)
  one_told e f line more (answer m b c v few is here spelled e_is told) (stale n d small some at unsent f_is said) = absurd (not_open m n b d c few small is at here unsent)
  one_told e f line more (stale n d small some at unsent e_is told) (call v b is whole few has f_is said) = absurd (not_stale b d n is small some at)
  one_told e f line more (stale n d small some at unsent e_is told) (answer m b c v few is here spelled f_is said) = absurd (not_open m n b d c few small is at here unsent)
  one_told e f line more (stale m b few some is unsent e_is told) (stale n d small also at none f_is said) =
      let both = one_word content b d m n few small is at in
      (e_is ∙ ap {B = Logged} (λ (k : ℕ). (came k b, None)) both.0 ∙ ap {B = Logged} (λ (z : List ℕ). (came n z, None)) both.1 ∙ sym f_is, told ∙ ap stale_line both.0 ∙ sym said)

  -- ---- never told and refused

  pub never_told : (at : ℕ) (e : Logged) (line : List ℕ) (place : ℕ) (why : List ℕ) → Tells schema past content e line → ContentRefused schema past at content place why → ⊥
  never_told at e line place why (call v b is whole few has e_is told) (no_number none here text) = no_word content b 0 none is
  never_told at e line place why (call v b is whole few has e_is told) (no_call d p begins fault here) = never_call b d v p why is begins whole fault
  never_told at e line place why (call v b is whole few has e_is told) (full w d begins also many here text) = omega (arith, few, many)
  never_told at e line place why (call v b is whole few has e_is told) (no_result w d cause begins also less has_cause here text) =
      never_cause schema (result_type schema.decls v) cause has (subst (λ (x : ValueView). ResultHas schema (result_type schema.decls x) cause) (sym (same_call b d v w is begins whole also)) has_cause)
  never_told at e line place why (call v b is whole few has e_is told) (no_answer n d c p small begins here fault there) = not_answer b d n c is small begins here
  never_told at e line place why (answer n b c v small is here spelled e_is told) (no_number none there text) = no_word content b n none is
  never_told at e line place why (answer n b c v small is here spelled e_is told) (no_call d p begins fault there) = not_answer d b n c begins small is here
  never_told at e line place why (answer n b c v small is here spelled e_is told) (full w d begins also many there text) = not_answer d b n c begins small is here
  never_told at e line place why (answer n b c v small is here spelled e_is told) (no_result w d cause begins also less has_cause there text) = not_answer d b n c begins small is here
  never_told at e line place why (answer m b c v few is here spelled e_is told) (no_answer n d x p small begins there fault place_is) =
      let same = same_answer m n b d c x few small is begins here there in
      never_whole schema (result_type schema.decls c) b (answer_one m b c is here) v p why spelled (of_same m n b d c x same (λ z y. NoWhole schema (result_type schema.decls y) z p why) fault)
  never_told at e line place why (stale n b small some is unsent e_is told) (no_number none here text) = no_word content b n none is
  never_told at e line place why (stale n b small some is unsent e_is told) (no_call d p begins fault here) = not_stale d b n begins small some is
  never_told at e line place why (stale n b small some is unsent e_is told) (full w d begins also many here text) = not_stale d b n begins small some is
  never_told at e line place why (stale n b small some is unsent e_is told) (no_result w d cause begins also less has_cause here text) = not_stale d b n begins small some is
  never_told at e line place why (stale n b small some is unsent e_is told) (no_answer m d c p few begins here fault there) = not_open m n d b c few small begins is here unsent

  -- ---- refused in one way

  abbrev Same : ℕ → ℕ → List ℕ → List ℕ → Type 0
  Same place other why more = (place ≡ other) × (why ≡ more)

  at_packet : (at place other : ℕ) (why more text : List ℕ) → place ≡ at → other ≡ at → why ≡ text → more ≡ text → Same place other why more
  at_packet at place other why more text here there said told = (here ∙ sym there, said ∙ sym told)

  inside : (at p q place other : ℕ) (why more : List ℕ) → place ≡ at + (8 + p) → other ≡ at + (8 + q) → Same p q why more → Same place other why more
  inside at p q place other why more here there same = (here ∙ ap (λ (k : ℕ). at + (8 + k)) same.0 ∙ sym there, same.1)

  pub one_refusal : (at place other : ℕ) (why more : List ℕ) → ContentRefused schema past at content place why → ContentRefused schema past at content other more → Same place other why more
  one_refusal at place other why more (no_number none here text) (no_number also there said) = at_packet at place other why more _ here there text said
  one_refusal at place other why more (no_number none here text) (no_call d q begins fault there) = absurd (no_word content d 0 none begins)
  one_refusal at place other why more (no_number none here text) (full w d begins also many there said) = absurd (no_word content d 0 none begins)
  one_refusal at place other why more (no_number none here text) (no_result w d cause begins also less has there said) = absurd (no_word content d 0 none begins)
  one_refusal at place other why more (no_number none here text) (no_answer n d c q small begins waits fault there) = absurd (no_word content d n none begins)
  one_refusal at place other why more (no_call b p is fault here) (no_number none there said) = absurd (no_word content b 0 none is)
  one_refusal at place other why more (no_call b p is fault here) (no_call d q begins also there) = inside at p q place other why more here there (same_call_fault b d p q why more is begins fault also)
  one_refusal at place other why more (no_call b p is fault here) (full w d begins also many there said) = absurd (never_call d b w p why begins is also fault)
  one_refusal at place other why more (no_call b p is fault here) (no_result w d cause begins also less has there said) = absurd (never_call d b w p why begins is also fault)
  one_refusal at place other why more (no_call b p is fault here) (no_answer n d c q small begins waits also there) = absurd (not_answer b d n c is small begins waits)
  one_refusal at place other why more (full v b is whole many here text) (no_number none there said) = absurd (no_word content b 0 none is)
  one_refusal at place other why more (full v b is whole many here text) (no_call d q begins fault there) = absurd (never_call b d v q more is begins whole fault)
  one_refusal at place other why more (full v b is whole many here text) (full w d begins also much there said) = at_packet at place other why more _ here there text said
  one_refusal at place other why more (full v b is whole many here text) (no_result w d cause begins also less has there said) = absurd (omega (arith, many, less))
  one_refusal at place other why more (full v b is whole many here text) (no_answer n d c q small begins waits fault there) = absurd (not_answer b d n c is small begins waits)
  one_refusal at place other why more (no_result v b cause is whole few has here text) (no_number none there said) = absurd (no_word content b 0 none is)
  one_refusal at place other why more (no_result v b cause is whole few has here text) (no_call d q begins fault there) = absurd (never_call b d v q more is begins whole fault)
  one_refusal at place other why more (no_result v b cause is whole few has here text) (full w d begins also many there said) = absurd (omega (arith, many, few))
  one_refusal at place other why more (no_result v b cause is whole few has here text) (no_result w d reason begins also less too there said) =
      let value = sym (same_call b d v w is begins whole also) in
      let same = one_cause schema (result_type schema.decls v) cause reason has (subst (λ (x : ValueView). ResultHas schema (result_type schema.decls x) reason) value too) in
      (here ∙ sym there, text ∙ ap result_cause_name same ∙ sym said)
  one_refusal at place other why more (no_result v b cause is whole few has here text) (no_answer n d c q small begins waits fault there) = absurd (not_answer b d n c is small begins waits)
  one_refusal at place other why more (no_answer n d c q small begins waits fault here) (no_number none there said) = absurd (no_word content d n none begins)
  one_refusal at place other why more (no_answer n d c q small begins waits fault here) (no_call b p is also there) = absurd (not_answer b d n c is small begins waits)
  one_refusal at place other why more (no_answer n d c q small begins waits fault here) (full v b is whole many there said) = absurd (not_answer b d n c is small begins waits)
  one_refusal at place other why more (no_answer n d c q small begins waits fault here) (no_result v b cause is whole few has there said) = absurd (not_answer b d n c is small begins waits)
  one_refusal at place other why more (no_answer m b c p few is waits fault here) (no_answer n d x q small begins also too there) =
      let same = same_answer m n b d c x few small is begins waits also in
      let faults = one_fault schema (result_type schema.decls c) b (answer_one m b c is waits) p q why more fault (of_same m n b d c x same (λ z y. NoWhole schema (result_type schema.decls y) z q more) too) in
      inside at p q place other why more here there faults

  -- ---- one of the two

  -- the content is told, or refused at a packet that begins at this offset
  pub data Comes (at : ℕ) : Type 0 where
    told : (e : Logged) (line : List ℕ) → Tells schema past content e line → Comes at
    not_told : (place : ℕ) (why : List ℕ) → ContentRefused schema past at content place why → Comes at

  of_whole_call : (at : ℕ) (b : List ℕ) (v : ValueView) → content ≡ word 0 ++ b → IsWhole schema type.call b v → length (open_in past) < MAX_OPEN → (o : Option ResultCause) → TellsCause schema (result_type schema.decls v) o → Comes at
  of_whole_call at b v is whole few None has = told (sent v, None) _ (call v b is whole few has refl refl)
  of_whole_call at b v is whole few (Some cause) has = not_told at _ (no_result v b cause is whole few has refl refl)

  of_call : (at : ℕ) (b : List ℕ) → content ≡ word 0 ++ b → Comes at
  of_call at b is = elim (whole_or_fault schema type.call b (call_one b is)) [
    | inl (v, whole) ↦ elim (cases_lt (length (open_in past)) MAX_OPEN) [
      | inl few ↦ (let cause = cause_told schema (result_type schema.decls v) in of_whole_call at b v is whole few cause.0 cause.1)
      | inr many ↦ not_told at _ (full v b is whole many refl refl)
    ]
    | inr (p, why, fault) ↦ not_told (at + (8 + p)) why (no_call b p is fault refl)
  ]

  of_answer : (at n : ℕ) (b : List ℕ) → n < 2 ^ 32 → n ≢ 0 → content ≡ word n ++ b → Comes at
  of_answer at n b few some is = elim (open_or_none past n) [
    | inl (c, here) ↦ elim (whole_or_fault schema (result_type schema.decls c) b (answer_one n b c is here)) [
      | inl (v, whole) ↦ told (came n b, Some v) _ (answer n b c v few is here whole refl refl)
      | inr (p, why, fault) ↦ not_told (at + (8 + p)) why (no_answer n b c p few is here fault refl)
    ]
    | inr unsent ↦ told (came n b, None) _ (stale n b few some is unsent refl refl)
  ]

  by_word : (at n : ℕ) (b : List ℕ) → n < 2 ^ 32 → content ≡ word n ++ b → Comes at
  by_word at n b few is = elim (cases_eq n 0) [
    | inl none ↦ of_call at b (subst (λ (k : ℕ). content ≡ word k ++ b) none is)
    | inr some ↦ of_answer at n b few some is
  ]

  -- a packet's content is empty or has a word
  pub comes : (at : ℕ) → (content ≡ []) ⊎ (4 ≤ length content) → Comes at
  comes at (inl none) = not_told at _ (no_number none refl refl)
  comes at (inr some) = elim (begins_word content are) [
    | words.short few ↦ absurd (omega (arith, some, few))
    | words.whole n rest few is bytes ↦ by_word at n rest few is
  ]
