use Rattle.std.proofs.Common.{arith}
use Rattle.tl_encode.proofs.Tops.{top_is}
use Rattle.tl_encode.proofs.frames.Stack.innermost.Goals as goal

pub returns : goal.returns
returns c =
    let s = c.args.self.now in
    top_is s.frames s.height c.index-frames-self.result c.requires.some (omega (arith, c.requires.levels.0, c.requires.levels.1)) c.index-frames-self.is
