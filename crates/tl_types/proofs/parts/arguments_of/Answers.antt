use Rattle.tl_types.proofs.DeclaredParts.{boxed_arguments, bare_arguments}
use Rattle.tl_types.proofs.parts.arguments_of.Goals as goal

pub returns-in-Boxed : goal.returns-in-Boxed
returns-in-Boxed c = boxed_arguments c.args.of.now _ _ _ c.in-Boxed.is c.deref.ensures.value

pub returns-in-Bare : goal.returns-in-Bare
returns-in-Bare c = bare_arguments c.args.of.now _ _ _ c.in-Bare.is c.deref-in-Bare.ensures.value
