-- The program of a generated source (docs/GENERATED.md, "The source"). It has no offsets: each is 0.
use Rattle.std.specs.Prelude.{ℕ, pos, List, [], ◌∷◌, map, None, codes}
use Rattle.std.specs.List.{range_with_len}
use Rattle.loft_tree.specs.declared.kinds.Kind.TheVariants.{Int}
use Rattle.loft_tree.specs.declared.kinds.BinaryOperator.TheVariants.{Plus}
use Rattle.loft_tree.specs.Source.{Ident, Number, Variable, Binary, Statement, Assign, Link, Unlink, Repeat, Statements, Done, Then, InScheduler, ANumber, Declaration, Scheduler, Shared, Module, Start, Source}
use Rattle.loft_gen.specs.Generated.{rounds_of, threads_of}

abbrev pub name : List ℕ → Ident
name text = record { text = text; at = 0 }

-- x = x + y
abbrev pub add : Ident → Ident → Statement
add x y = Assign x (Binary Plus (Variable x) (Variable y))

-- one round of the thread k: to each scheduler in turn, where it adds k to the variable, and to the workers
abbrev pub round : Statements
round =
    Then (add (name (codes "x0")) (name (codes "k")))
    (Then (Link 0 (name (codes "A1")))
    (Then (add (name (codes "x1")) (name (codes "k")))
    (Then (Link 0 (name (codes "A2")))
    (Then (add (name (codes "x2")) (name (codes "k")))
    (Then (Link 0 (name (codes "A3")))
    (Then (add (name (codes "x3")) (name (codes "k")))
    (Then (Unlink 0)
    (Then (add (name (codes "n")) (name (codes "k")))
    (Then (Link 0 (name (codes "A0"))) Done)))))))))

-- so many rounds, and what the workers added
abbrev pub walk_body : ℕ → Statements
walk_body rounds = Then (Repeat 0 (Number 0 (pos rounds)) round) (Then (add (name (codes "x0")) (name (codes "n"))) Done)

abbrev pub walk : ℕ → Declaration
walk rounds =
    Module
    (record { name = name (codes "walk"); parameters = record { kind = Int; name = name (codes "k") } ∷ []; begin = InScheduler (name (codes "A0")); end = None })
    (record { kind = Int; name = name (codes "n") } ∷ [])
    (walk_body rounds)

-- the start of the thread with this number
abbrev pub start : ℕ → Declaration
start number = Start (name (codes "A0")) (name (codes "walk")) (ANumber 0 (pos number) ∷ []) None

-- threads of these numbers, which make so many rounds
abbrev pub walks : ℕ → List ℕ → Source
walks rounds numbers =
    Scheduler (name (codes "A0"))
    ∷ Scheduler (name (codes "A1"))
    ∷ Scheduler (name (codes "A2"))
    ∷ Scheduler (name (codes "A3"))
    ∷ Shared (name (codes "x0")) (name (codes "A0")) (pos 0)
    ∷ Shared (name (codes "x1")) (name (codes "A1")) (pos 0)
    ∷ Shared (name (codes "x2")) (name (codes "A2")) (pos 0)
    ∷ Shared (name (codes "x3")) (name (codes "A3")) (pos 0)
    ∷ walk rounds
    ∷ map start numbers

-- the program of K
abbrev pub walks_of : ℕ → Source
walks_of k = walks (rounds_of k) (range_with_len 1 (threads_of k))
