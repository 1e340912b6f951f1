-- A piece, taken item by item.
use Rattle.std.proofs.Common.{◌≡◌, ℕ, ◌+◌, ◌-◌, ◌^◌, ◌<◌, ◌≤◌, List, [], ◌++◌, length, take, drop, Option, Some, None, Result, Ok, Err, ap, sym, ◌∙◌, subst, arith}
use Rattle.std.proofs.lemmas.List.{drop-drop, length-drop, take_all}
use Rattle.std.specs.declared.alloc.Global.{Global}
use Rattle.std.specs.Prelude.{Vec}
use Rattle.tl_plan.specs.Plans.{PlanView}
use Rattle.tl_types.specs.Offsets.{moved}
use Rattle.tl_types.specs.Seen.{view}
use Rattle.tl_types.specs.Values.{ValueView}
use Rattle.tl_types.specs.inner.Reading.{spot, Read}
use Rattle.tl_types.specs.declared.value.Value.{Value}
use Rattle.tl_types.specs.declared.value.TheConstants.{MAX_LEVELS}
use Rattle.tl_decode.specs.declared.fault.DecodeFault.{DecodeFault}
use Rattle.tl_decode.specs.declared.fault.DecodeFault.TheVariants as fault
use Rattle.tl_decode.specs.declared.stack.StackFrame.{StackFrame}
use Rattle.tl_decode.specs.declared.stack.WantedItem.{WantedItem}
use Rattle.tl_decode.specs.declared.stack.WantedItem.TheVariants as wanted
use Rattle.tl_decode.specs.declared.stack.Item.{Item}
use Rattle.tl_decode.specs.declared.stack.Item.TheVariants as item
use Rattle.tl_decode.specs.declared.stack.Next.TheVariants as next_step
use Rattle.tl_decode.specs.declared.stack.Next.{Next}
use Rattle.tl_decode.specs.declared.stack.Found.{Found}
use Rattle.tl_decode.specs.declared.stack.Found.TheVariants as found
use Rattle.tl_decode.specs.declared.stack.Reading.{Reading}
use Rattle.tl_base.specs.declared.fault.Fault.{Fault}
use Rattle.tl_base.specs.declared.fault.Fault.TheVariants as stop
use Rattle.tl_types.specs.declared.cause.Cause.{Cause}
use Rattle.tl_decode.specs.inner.Frames.{StackFrameView, ItemView, views, word, item_view, goes_after, levels_below, next_at, found_at, next_work, found_work, resumes, IsStop, IsWellWanted, SettlesAt, SettlesFrom, Takes}
use Rattle.tl_decode.specs.inner.Needs.{EndsWords, FindsItem, IsInOrder, TakesItem, TakesPiece, TakesWords, needs, piece_work, reads_on}
use Rattle.tl_decode.proofs.FrameLists.{resume_err}
use Rattle.tl_decode.proofs.HeldBytes.{text_least}
use Rattle.tl_decode.proofs.Onward.{item_then, item_fails}
use Rattle.tl_decode.proofs.PieceWork.{some_less}

-- ---- after an item

pub after_goes : (p : PlanView) (fs : List StackFrameView) (W : WantedItem) (place then work : ℕ) (x : ItemView) (n : Next) (new : List StackFrame) (r : Result Found DecodeFault) → Takes p W x (Ok n) → SettlesAt p (next_at p fs n) (next_work p fs n) then new r → SettlesAt p (goes_after p fs W place x) (found_work p fs (found.Wants W)) then new r
after_goes p fs W place then work x n new (Ok f) t s =
    let less = t.2 fs in
    (record { frames = s.0.frames; is_well = s.0.is_well; same = λ r. t.1 fs place r ∙ s.0.same r }, omega (arith, less, s.1))
after_goes p fs W place then work x n new (Err (fault.Refused q cause)) t s = (s.0, λ b. t.1 fs place (spot then b) ∙ s.1 b)
after_goes p fs W place then work x n new (Err fault.ReadFault) t s = s
after_goes p fs W place then work x n new (Err fault.Memory) t s = tt

pub after_stops : (p : PlanView) (fs : List StackFrameView) (W : WantedItem) (place then work : ℕ) (x : ItemView) (st : Fault Cause) (e : DecodeFault) (new : List StackFrame) → Takes p W x (Err st) → IsStop st place e → SettlesAt p (goes_after p fs W place x) work then new (Err e)
after_stops p fs W place then work x (stop.Refused cause) e new t is =
    subst (λ (f : DecodeFault). SettlesAt p (goes_after p fs W place x) work then new (Err f)) (sym is) (t.0, λ b. ap (resumes p fs) (t.1 (levels_below fs) place (spot then b)) ∙ resume_err p.schema.decls MAX_LEVELS fs _)
after_stops p fs W place then work x stop.Memory e new t is = subst (λ (f : DecodeFault). SettlesAt p (goes_after p fs W place x) work then new (Err f)) (sym is) tt

-- an item needs a byte at least
pub begins_none : (p : PlanView) (W : WantedItem) → IsWellWanted p W → 0 < needs W []
begins_none p wanted.Int w = omega arith
begins_none p wanted.Nat w = omega arith
begins_none p wanted.Long w = omega arith
begins_none p (wanted.Opaque k) w = omega (arith, w)
begins_none p wanted.Text w = let least = text_least [] in omega (arith, least)
begins_none p (wanted.Number j) w = omega arith
begins_none p (wanted.ListNumber j) w = omega arith
begins_none p (wanted.Count j) w = omega arith

-- ---- one item

module _ (p : PlanView) (old new : Reading) (at then : ℕ) (next : List ℕ) (x : Item) (n : ℕ) (f : FindsItem old.wanted old.held.items new.held.items next (Ok (Some (x, n)))) (is : then ≡ moved at (length old.held.items + n)) where
  abbrev fs : List StackFrameView
  fs = views p old.frames.items

  goes : (more : List ℕ) → reads_on p old at (next ++ more) ≡ goes_after p fs old.wanted at (item_view x) (spot then (drop n next ++ more))
  goes more =
      ap (resumes p fs) (item_then p fs old.wanted (spot at (old.held.items ++ (next ++ more))) (item_view x) (spot (moved at (length old.held.items + n)) (drop n next ++ more)) (f.2 at more))
      ∙ ap (λ (q : ℕ). goes_after p fs old.wanted at (item_view x) (spot q (drop n next ++ more))) (sym is)

  pub item_some : (work : ℕ) (g : Found) → SettlesAt p (goes_after p fs old.wanted at (item_view x)) work then new.frames.items (Ok g) → found_work p (views p new.frames.items) g < found_work p fs (found.Wants old.wanted)
      → TakesItem p (reads_on p old at) (found_work p fs (found.Wants old.wanted)) next new then (Ok (Some (g, n)))
  item_some work g s less = (s.0.frames, s.0.is_well, f.0, f.1, less, λ more. goes more ∙ s.0.same (spot then (drop n next ++ more)))

  pub item_error : (work least : ℕ) (e : DecodeFault) → SettlesAt p (goes_after p fs old.wanted at (item_view x)) work then new.frames.items (Err e) → TakesItem p (reads_on p old at) least next new then (Err e)
  item_error work least (fault.Refused q cause) s = (s.0, λ more. goes more ∙ s.1 (drop n next ++ more))
  item_error work least fault.ReadFault s = s
  item_error work least fault.Memory s = tt

pub item_stop : (p : PlanView) (old new : Reading) (at then work : ℕ) (next : List ℕ) (st : Fault Cause) (e : DecodeFault) → FindsItem old.wanted old.held.items new.held.items next (Err st) → IsStop st at e → TakesItem p (reads_on p old at) work next new then (Err e)
item_stop p old new at then work next (stop.Refused cause) e f is =
    let fs = views p old.frames.items in
    subst (λ (g : DecodeFault). TakesItem p (reads_on p old at) work next new then (Err g)) (sym is)
    (f.0, λ more. ap (resumes p fs) (item_fails p fs old.wanted (spot at (old.held.items ++ (next ++ more))) at cause (f.1 at more)) ∙ resume_err p.schema.decls MAX_LEVELS fs _)
item_stop p old new at then work next stop.Memory e f is = subst (λ (g : DecodeFault). TakesItem p (reads_on p old at) work next new then (Err g)) (sym is) tt

-- ---- a word that is a value

pub settled_at : (p : PlanView) (old : List StackFrame) (n : Next) (place : ℕ) (new : List StackFrame) (f : Found) → SettlesFrom p old n new (Ok f) → SettlesAt p (next_at p (views p old) n) (next_work p (views p old) n) place new (Ok f)
settled_at p old n place new f s = s

-- what comes of an item, however it was found
module _ (p : PlanView) (old : Reading) (at then : ℕ) (next : List ℕ) (frames : Vec StackFrame Global) (w : ℕ) (v : Value) (f : FindsItem old.wanted old.held.items old.held.items next (Ok (Some (item.Word w, 4)))) (t : Takes p old.wanted (word w) (Ok (next_step.Close v))) (is : then ≡ moved at (length old.held.items + 4)) where
  pub word_taken : (g : Found) → SettlesAt p (next_at p (views p old.frames.items) (next_step.Close v)) (next_work p (views p old.frames.items) (next_step.Close v)) then frames.items (Ok g)
      → TakesItem p (reads_on p old at) (found_work p (views p old.frames.items) (found.Wants old.wanted)) next (record old { frames = frames }) then (Ok (Some (g, 4)))
  word_taken g s =
      let vs = views p old.frames.items in
      let less = t.2 vs in
      item_some p old (record old { frames = frames }) at then next (item.Word w) 4 f is (found_work p vs (found.Wants old.wanted)) g (after_goes p vs old.wanted at then 0 (word w) (next_step.Close v) frames.items (Ok g) t s) (omega (arith, less, s.1))

  pub word_error : (e : DecodeFault) → SettlesAt p (next_at p (views p old.frames.items) (next_step.Close v)) (next_work p (views p old.frames.items) (next_step.Close v)) then frames.items (Err e)
      → TakesItem p (reads_on p old at) (found_work p (views p old.frames.items) (found.Wants old.wanted)) next (record old { frames = frames }) then (Err e)
  word_error e s =
      let vs = views p old.frames.items in
      let work = found_work p vs (found.Wants old.wanted) in
      item_error p old (record old { frames = frames }) at then next (item.Word w) 4 f is work work e (after_goes p vs old.wanted at then 0 (word w) (next_step.Close v) frames.items (Err e) t s)

-- ---- a piece

-- so far
pub record SoFar (p : PlanView) (old : List ℕ → Read ValueView) (piece : List ℕ) (used : ℕ) (now : Reading) (at : ℕ) : Type 0 where
  pub within : used ≤ length piece
  pub order : IsInOrder p now
  pub reads : (more : List ℕ) → old (piece ++ more) ≡ reads_on p now at (drop used piece ++ more)

module _ (p : PlanView) (old : List ℕ → Read ValueView) (piece : List ℕ) (used at : ℕ) (now : Reading) (s : SoFar p old piece used now at) (new : Reading) (then : ℕ) (g : Found) (n : ℕ) (t : TakesItem p (reads_on p now at) (found_work p (views p now.frames.items) (found.Wants now.wanted)) (take (length piece - used) (drop used piece)) new then (Ok (Some (g, n)))) where
  takes : (f : Found) → g ≡ f → TakesItem p (reads_on p now at) (found_work p (views p now.frames.items) (found.Wants now.wanted)) (drop used piece) new then (Ok (Some (f, n)))
  takes f is =
      let rest = take_all (length piece - used) (drop used piece) (omega (arith, length-drop used piece)) in
      subst (λ (k : Found). TakesItem p (reads_on p now at) (found_work p (views p now.frames.items) (found.Wants now.wanted)) (drop used piece) new then (Ok (Some (k, n)))) is
      (subst (λ (next : List ℕ). TakesItem p (reads_on p now at) (found_work p (views p now.frames.items) (found.Wants now.wanted)) next new then (Ok (Some (g, n)))) rest t)

  pub piece_done : (v : Value) → g ≡ found.Done v → TakesPiece p old piece new then (Ok (Some (v, used + n)))
  piece_done v is =
      let u = takes (found.Done v) is in
      (omega (arith, u.3, length-drop used piece, s.within), λ more. s.reads more ∙ u.5 more ∙ ap (λ (z : List ℕ). Ok (view v, spot then (z ++ more))) (drop-drop n used piece))

  pub piece_goes : (W : WantedItem) → g ≡ found.Wants W → length now.held.items < 2 ^ 64 → SoFar p old piece (used + n) (record new { wanted = W }) then × (piece_work p (record new { wanted = W }) < piece_work p now)
  piece_goes W is lt =
      let u = takes (found.Wants W) is in
      let on = λ (z more : List ℕ). found_at p (views p new.frames.items) (found.Wants W) (spot then (z ++ more)) in (
        record {
          within = omega (arith, u.3, length-drop used piece, s.within);
          order = record { frames = u.0; well = u.1; begins = subst (λ (z : List ℕ). length z < needs W z) (sym u.2) (begins_none p W u.1) };
          reads = λ more. s.reads more ∙ u.5 more ∙ ap (λ (z : List ℕ). on z more) (drop-drop n used piece) ∙ ap (λ (z : List ℕ). on z (drop (used + n) piece ++ more)) (sym u.2);
        },
        some_less p now new W u.2 lt u.4,
      )

-- ---- words, and then the next item

module _ (p : PlanView) (old : List ℕ → Read ValueView) (piece : List ℕ) (used at : ℕ) (now : Reading) (s : SoFar p old piece used now at) (new : Reading) (then n : ℕ) where
  rest_is : take (length piece - used) (drop used piece) ≡ drop used piece
  rest_is = take_all (length piece - used) (drop used piece) (omega (arith, length-drop used piece))

  pub words_go : (o : Option Value) → o ≡ None → n ≤ length (take (length piece - used) (drop used piece)) → EndsWords p (reads_on p now at) (take (length piece - used) (drop used piece)) new then n o → SoFar p old piece (used + n) new then
  words_go o none few ends =
      let e = subst (λ (q : Option Value). EndsWords p (reads_on p now at) (take (length piece - used) (drop used piece)) new then n q) none ends in
      let on = subst (λ (next : List ℕ). (more : List ℕ) → reads_on p now at (next ++ more) ≡ reads_on p new then (drop n next ++ more)) rest_is e.1 in
      record {
        within = omega (arith, few, ap length rest_is, length-drop used piece, s.within);
        order = e.0;
        reads = λ more. s.reads more ∙ on more ∙ ap (λ (z : List ℕ). reads_on p new then (z ++ more)) (drop-drop n used piece);
      }

  pub words_done : (o : Option Value) (v : Value) → o ≡ Some v → n ≤ length (take (length piece - used) (drop used piece)) → EndsWords p (reads_on p now at) (take (length piece - used) (drop used piece)) new then n o → TakesPiece p old piece new then (Ok (Some (v, used + n)))
  words_done o v some few ends =
      let e = subst (λ (q : Option Value). EndsWords p (reads_on p now at) (take (length piece - used) (drop used piece)) new then n q) some ends in
      let on = subst (λ (next : List ℕ). (more : List ℕ) → reads_on p now at (next ++ more) ≡ Ok (view v, spot then (drop n next ++ more))) rest_is e in
      (omega (arith, few, ap length rest_is, length-drop used piece, s.within), λ more. s.reads more ∙ on more ∙ ap (λ (z : List ℕ). Ok (view v, spot then (z ++ more))) (drop-drop n used piece))

  pub words_fail : (e : DecodeFault) (work : ℕ) → TakesItem p (reads_on p now at) work (take (length piece - used) (drop used piece)) new then (Err e) → TakesWords p old piece new then (Err e)
  words_fail (fault.Refused place cause) work t =
      let on = subst (λ (next : List ℕ). (more : List ℕ) → reads_on p now at (next ++ more) ≡ Err (place, cause)) rest_is t.1 in
      (t.0, λ more. s.reads more ∙ on more)
  words_fail fault.ReadFault work t = t
  words_fail fault.Memory work t = tt
