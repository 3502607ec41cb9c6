use Rattle.gb_types.specs.Common.{◌≡◌, ◌++◌, take, flat_map}
use Rattle.gb_status.specs.Figures.{figure_text}
use Rattle.gb_status.proofs.text.put_figures.Given as goal

-- the figures so far are written
abbrev pub invariant-loop-figure : goal.invariant-loop-figure
invariant-loop-figure l = l.out.items ≡ l.fn.out.items ++ flat_map (figure_text l.all) (take l.figure-index l.figures)
