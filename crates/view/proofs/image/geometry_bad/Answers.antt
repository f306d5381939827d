-- `view::image::geometry_bad` meets its contract, test by test. Assumes nothing.
use mathlib.Core.Path.{sym, ◌∙◌}
use native.Mathlib.Omega.{arith}
use Rattle.view.proofs.ImageLaws.{size_bad, count_bad, length_test, area}
use Rattle.view.proofs.image.geometry_bad.Goals as goal

pub returns-then-not-size_allowed : goal.returns-then-not-size_allowed
returns-then-not-size_allowed c =
    let a = c.args in
    sym (size_bad a.image.now a.p a.n (sym c.size_allowed.ensures ∙ c.if-not-size_allowed.true))

pub returns-then-not-count_allowed : goal.returns-then-not-count_allowed
returns-then-not-count_allowed c =
    let a = c.args in
    sym
    (count_bad a.image.now a.p a.n (sym c.size_allowed.ensures ∙ c.if-not-size_allowed.false)
    (sym c.count_allowed.ensures ∙ c.if-not-count_allowed.true))

pub overflow_mul-result : goal.overflow_mul-result
overflow_mul-result c =
    let a = c.args in
    omega (
      arith,
      area a.p a.n (sym c.size_allowed.ensures ∙ c.if-not-size_allowed.false)
          (sym c.count_allowed.ensures ∙ c.if-not-count_allowed.false),
    )

pub returns : goal.returns
returns c =
    let a = c.args in
    length_test a.image.now a.p a.n (sym c.size_allowed.ensures ∙ c.if-not-size_allowed.false)
    (sym c.count_allowed.ensures ∙ c.if-not-count_allowed.false)
