use Rattle.walker_text.specs.Walker.{walker_text, walker_lines}
use Rattle.walker_text.proofs.Lines.{line-then, no-line}
use Rattle.walker_text.proofs.walker.put_walker.Goals as goal

pub returns : goal.returns
unfolding walker_text walker_lines
returns c =
    line-then _ _ _ c.in_ok-put_line.ensures
    (line-then _ _ _ c.in_ok-put_counted.ensures
    (line-then _ _ _ c.in_ok-put_line-2.ensures
    (line-then _ _ _ c.in_ok-put_line-3.ensures
    (line-then _ _ _ c.in_ok-put_line-4.ensures
    (line-then _ _ _ c.in_ok-put_line-5.ensures
    (line-then _ _ _ c.in_ok-put_counted-2.ensures
    (line-then _ _ _ c.in_ok-put_counted-3.ensures
    (line-then _ _ _ c.in_ok-put_counted-4.ensures
    (line-then _ _ _ c.in_ok-put_counted-5.ensures
    (line-then _ _ _ c.in_ok-put_line-6.ensures
    (line-then _ _ _ c.in_ok-put_counted-6.ensures
    (line-then _ _ _ c.in_ok-put_line-7.ensures (no-line _)))))))))))))
