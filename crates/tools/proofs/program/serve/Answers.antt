-- `tools::serve` meets its contract: the answer is called with what was read, and what it leaves is printed.
use Rattle.std.proofs.Common.{rules, refl}
use Rattle.tools.proofs.Serving.{serves}
use Rattle.tools.proofs.program.serve.Goals as goal

pub answer-length-requires : goal.answer-length-requires
answer-length-requires g c =
    c.requires.may _ _ refl

pub slice_bounds-write_all-end : goal.slice_bounds-write_all-end
slice_bounds-write_all-end g c =
    c.requires.within _ _ _ _ refl c.answer-length.ensures

pub slice_bounds-write_all-end-2 : goal.slice_bounds-write_all-end-2
slice_bounds-write_all-end-2 g c =
    let within = c.requires.within _ _ _ _ refl c.answer-length.ensures in search rules

pub returns : goal.returns
returns g c printed prints enough =
    serves _ _ _ _ printed _ _ _ _ (search rules) c.in_ok-size.ensures.front enough
    (prints.at _ _ _ _ refl c.answer-length.ensures) c.write_all.ensures.bytes
