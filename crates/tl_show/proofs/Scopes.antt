-- Types whose variables stand for others.
use denote.Ref.{Bor}
use Rattle.std.proofs.Common.{◌≡◌, ℕ, zero, suc, ◌<◌, ◌≤◌, List, [], ◌∷◌, length, get_or, map, true, false, Option, Some, None, refl, sym, ap, ◌∙◌, rules, arith}
use Rattle.tl_schema.specs.Types.{Shape, Shapes, no_shapes}
use Rattle.tl_schema.specs.Types as type
use Rattle.tl_schema.specs.Closing.{closed, closed_each, list_of_shapes}
use Rattle.tl_schema.specs.Seen.{shape}
use Rattle.tl_schema.specs.declared.schema.TypeRef.{TypeRef}
use Rattle.tl_types.specs.Parts.{arguments_of, item_of}
use Rattle.tl_show.specs.Shown.{is_string}
use Rattle.tl_show.specs.declared.scope.Scope as own
use Rattle.tl_show.specs.declared.scope.Scope.{Scope}
use Rattle.tl_show.specs.declared.scope.Scope.TheViews.{out-Scope, roll-Scope}
use Rattle.tl_schema.specs.declared.schema.TypeRef.TheVariants.{Var}
use Rattle.tl_schema.proofs.Views.{shape-Var}
use Rattle.tl_show.specs.inner.Scopes.{IsSettled, shapes_in, shapes_of}

clash : {P : Type 0} → true ≡ false → P
clash e = absurd (cc)

-- ---- what is no variable is closed part by part

each_closed : (args : List Shape) (ss : Shapes) → list_of_shapes (closed_each args ss) ≡ map (closed args) (list_of_shapes ss)
each_closed args no_shapes = refl
each_closed args (type.shape s ss) = ap (λ l. closed args s ∷ l) (each_closed args ss)

pub settled_string : (args : List Shape) (T : Shape) → IsSettled args T → is_string (closed args T) ≡ is_string T
settled_string args (type.var i) h = ap is_string (h refl)
settled_string args type.int h = refl
settled_string args type.long h = refl
settled_string args type.nat h = refl
settled_string args (type.opaque n) h = refl
settled_string args type.str h = refl
settled_string args type.raw h = refl
settled_string args type.flag h = refl
settled_string args type.call h = refl
settled_string args (type.vector is_boxed s) h = refl
settled_string args (type.boxed head ss) h = refl
settled_string args (type.bare i ss) h = refl

pub settled_item : (args : List Shape) (T : Shape) → IsSettled args T → item_of (closed args T) ≡ closed args (item_of T)
settled_item args (type.var i) h = ap item_of (h refl) ∙ sym (h refl)
settled_item args type.int h = refl
settled_item args type.long h = refl
settled_item args type.nat h = refl
settled_item args (type.opaque n) h = refl
settled_item args type.str h = refl
settled_item args type.raw h = refl
settled_item args type.flag h = refl
settled_item args type.call h = refl
settled_item args (type.vector is_boxed s) h = refl
settled_item args (type.boxed head ss) h = refl
settled_item args (type.bare i ss) h = refl

pub settled_arguments : (args : List Shape) (T : Shape) → IsSettled args T → arguments_of (closed args T) ≡ map (closed args) (arguments_of T)
settled_arguments args (type.var i) h = ap arguments_of (h refl)
settled_arguments args type.int h = refl
settled_arguments args type.long h = refl
settled_arguments args type.nat h = refl
settled_arguments args (type.opaque n) h = refl
settled_arguments args type.str h = refl
settled_arguments args type.raw h = refl
settled_arguments args type.flag h = refl
settled_arguments args type.call h = refl
settled_arguments args (type.vector is_boxed s) h = refl
settled_arguments args (type.boxed head ss) h = each_closed args ss
settled_arguments args (type.bare i ss) h = each_closed args ss

-- ---- scopes

pub shapes-made : (args : Bor (List TypeRef)) (outer : Option (Bor Scope)) → shapes_of (roll-Scope (record { args = args; outer = outer })) ≡ map (closed (shapes_in outer)) (map shape args.now)
shapes-made args None = search (rules, own.the_lemmas)
shapes-made args (Some scope) = search (rules, own.the_lemmas)

shapes-seen : (s : Scope) → shapes_of s ≡ map (closed (shapes_in (out-Scope s).outer)) (map shape (out-Scope s).args.now)
shapes-seen s =
    let same : roll-Scope (out-Scope s) ≡ s = search (rules, own.the_lemmas) in
    ap shapes_of (sym same) ∙ shapes-made (out-Scope s).args (out-Scope s).outer

closed_at : (args : List Shape) (ts : List TypeRef) (i : ℕ) (t : TypeRef) (d : Shape) → i < length ts → t ≡ get_or ts i t → get_or (map (closed args) (map shape ts)) i d ≡ closed args (shape t)
closed_at args [] i t d within at = absurd (omega arith)
closed_at args (u ∷ ts) zero t d within at = ap (λ x. closed args (shape x)) (sym at)
closed_at args (u ∷ ts) (suc i) t d within at = closed_at args ts i t d (omega arith) at

closed_past : (args : List Shape) (ts : List TypeRef) (i : ℕ) (d : Shape) → length ts ≤ i → get_or (map (closed args) (map shape ts)) i d ≡ d
closed_past args [] i d past = refl
closed_past args (u ∷ ts) zero d past = absurd (omega arith)
closed_past args (u ∷ ts) (suc i) d past = closed_past args ts i d (omega arith)

-- a variable of a scope, and one past it
pub var_there : (s : Scope) (of arg : TypeRef) (i : ℕ) → of ≡ Var i → i < length (out-Scope s).args.now → arg ≡ get_or (out-Scope s).args.now i arg
    → closed (shapes_in (out-Scope s).outer) (shape arg) ≡ closed (shapes_of s) (shape of)
var_there s of arg i is within at =
    sym (ap (closed (shapes_of s)) (shape-Var of i is) ∙ ap (λ l. get_or l i (type.var i)) (shapes-seen s) ∙ closed_at (shapes_in (out-Scope s).outer) (out-Scope s).args.now i arg (type.var i) within at)

pub var_past : (s : Scope) (of : TypeRef) (i : ℕ) → of ≡ Var i → length (out-Scope s).args.now ≤ i → closed (shapes_of s) (shape of) ≡ shape of
var_past s of i is past =
    let here = shape-Var of i is in
    ap (closed (shapes_of s)) here ∙ ap (λ l. get_or l i (type.var i)) (shapes-seen s) ∙ closed_past (shapes_in (out-Scope s).outer) (out-Scope s).args.now i (type.var i) past ∙ sym here
