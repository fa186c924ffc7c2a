-- `whole_verdict::text` meets its contract: what came prints what the whole file prints.
use Rattle.program_io.proofs.Fits.{came-whole}
use Rattle.verdict_text.proofs.Theorems.{any_text, program_prints}
use Rattle.whole_verdict.proofs.text.Goals as goal

pub slice_bounds-whole_text-end : goal.slice_bounds-whole_text-end
slice_bounds-whole_text-end c = came-whole _ _ _ c.requires.1

pub returns : goal.returns
returns c =
    λ file f. program_prints _ _ (any_text _ c.requires.0) c.args.plan.now file _ _ c.args.p _ c.requires.2 c.requires.3
    c.whole_text.ensures f
