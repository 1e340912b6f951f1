-- Types that are asked for, and those that are kept.
use Rattle.std.proofs.Common.{◌≡◌, ℕ, zero, suc, List, [], ◌∷◌, ◌++◌, map, None, Some, Result, Ok, Err, refl, sym, ap, ◌∙◌, subst, inl, inr}
use Rattle.std.specs.Prelude.{IsErrAnd}
use Rattle.std.proofs.lemmas.List.{length-map, map_push}
use Rattle.std.proofs.lemmas.Option.{same_Some}
use Rattle.tl_schema.specs.Types.{Shape}
use Rattle.tl_schema.specs.Schemas.{Declared}
use Rattle.tl_schema.specs.Formed.{IsFormed}
use Rattle.tl_schema.specs.AskedTypes.{IsTypeText}
use Rattle.tl_schema.specs.Seen.{shape}
use Rattle.tl_schema.specs.declared.schema.TypeRef.{TypeRef}
use Rattle.tl_plan.specs.Plans.{AreFormed}
use Rattle.outside.specs.declared.stop.LoadError.{LoadError}
use Rattle.outside.specs.Loading.{Refuses}
use Rattle.outside.proofs.Loaded.{refuses_as, memory_refuses}
use Rattle.schema_files.specs.Parts.{TellsPlan, TellsType}
use Rattle.tl_codec.specs.Typings.{Adds, IsPlannedType, TellsName}
use Rattle.tl_codec.specs.inner.Names.{Pushes}

pub type_told : (schema : Declared) (name : List ℕ) (u : LoadError) → Refuses (TellsType schema name) u → Refuses (TellsName schema name) u
type_told schema name u told = refuses_as (TellsType schema name) (TellsName schema name) u (λ line says. inl says) told

pub plan_told : (schema : Declared) (name : List ℕ) (T : Shape) (u : LoadError) → IsTypeText schema.program name T → Refuses (TellsPlan schema T) u → Refuses (TellsName schema name) u
plan_told schema name T u means told = refuses_as (TellsPlan schema T) (TellsName schema name) u (λ line says. inr (T, means, says)) told

-- at the exit of a `?`
pub unnamed : (schema : Declared) (name : List ℕ) (old : List Shape) (fault : LoadError) (r : Result ℕ LoadError) → Refuses (TellsName schema name) fault → IsErrAnd r (λ z. z ≡ fault) → Adds schema name old old r
unnamed schema name old fault (Ok n) told is = absurd is
unnamed schema name old fault (Err z) told is = (refl, subst (Refuses (TellsName schema name)) (sym is) told)

pub added : (schema : Declared) (name : List ℕ) (old new : List TypeRef) (of : TypeRef) (r : Result ℕ LoadError) → IsPlannedType schema name (shape of) → Pushes old of new r → Adds schema name (map shape old) (map shape new) r
added schema name old new of (Ok n) is (count, more) = (count ∙ sym (length-map old shape), (shape of, ap (map shape) more ∙ map_push shape old of, is))
added schema name old new of (Err fault) is (memory, same) = (ap (map shape) same, memory_refuses (TellsName schema name) fault memory)

formed_push : (schema : Declared) (Ts : List Shape) (T : Shape) → AreFormed schema Ts → IsFormed schema T → AreFormed schema (Ts ++ T ∷ [])
formed_push schema [] T are is zero U at = subst (IsFormed schema) (same_Some T U at) is
formed_push schema [] T are is (suc k) U at = let clash : None ≡ Some U = at in absurd cc
formed_push schema (X ∷ Ts) T are is zero U at = are zero U at
formed_push schema (X ∷ Ts) T are is (suc k) U at = formed_push schema Ts T (λ j V there. are (suc j) V there) is k U at

pub still_formed : (schema : Declared) (old new : List TypeRef) (of : TypeRef) (r : Result ℕ LoadError) → AreFormed schema (map shape old) → IsFormed schema (shape of) → Pushes old of new r → AreFormed schema (map shape new)
still_formed schema old new of (Ok n) are is (count, more) = rw (more, map_push shape old of) (formed_push schema (map shape old) (shape of) are is)
still_formed schema old new of (Err fault) are is (memory, same) = rw same are
