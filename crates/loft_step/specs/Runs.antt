-- What an expression sees of a thread.
use Rattle.std.specs.Prelude.{List, [], ◌∷◌, reverse}
use Rattle.loft_base.specs.declared.ids.Value.{Value}
use Rattle.loft_orders.specs.declared.thread.Frame.{Frame}

abbrev pub values_or_none : List Frame → List Value
values_or_none [] = []
values_or_none (f ∷ fs) = f.values

-- the values of the innermost of these frames, outermost first; none where there is no frame
abbrev pub innermost_values : List Frame → List Value
innermost_values fs = values_or_none (reverse fs)
