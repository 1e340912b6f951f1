use Rattle.std.proofs.Common.{◌<◌, length, map, sym, subst}
use Rattle.tl_schema.specs.Seen.{shape}
use Rattle.tl_codec.specs.Codings.{Encodes}
use Rattle.tl_codec.specs.Typings.{Coder}
use Rattle.tl_codec.proofs.Numbered.{kept_formed, made_of}
use Rattle.tl_codec.proofs.codec.Codec.encode.Goals as goal

pub bytes_of-requires-clause-formed : goal.bytes_of-requires-clause-formed
bytes_of-requires-clause-formed c =
    let within = subst (λ (k : Coder). c.args.of < length k.1) (sym c.self.view_is) c.requires.known in
    kept_formed c.self.inside.schema c.self.inside.types.items c.args.of c.index-of.result.now within c.index-of.ensures c.self.invariant.formed

pub returns : goal.returns
returns c =
    let within : c.args.of < length (map shape c.self.inside.types.items) = subst (λ (k : Coder). c.args.of < length k.1) (sym c.self.view_is) c.requires.known in
    rw (← c.self.view_is) (made_of c.self.inside.schema c.self.inside.types.items c.args.of c.index-of.result.now within c.index-of.ensures Encodes c.args.text.now c.bytes_of.result c.bytes_of.ensures)
