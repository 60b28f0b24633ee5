-- JSON as data: RFC 8259.
use Rattle.std.specs.Prelude.{ℕ, Bool, List, Option, Some, None}

mutual
  -- A string is its code units of UTF-16, and a number the characters of which it is written.
  pub data Json : Type 0 where
    null : Json
    bool : Bool → Json
    number : (text : List ℕ) → Json
    string : (units : List ℕ) → Json
    list : Jsons → Json
    object : Fields → Json

  pub data Jsons : Type 0 where
    none : Jsons
    also : Json → Jsons → Jsons

  -- the fields of an object, in the order in which they are written
  pub data Fields : Type 0 where
    done : Fields
    named : (name : List ℕ) → Json → Fields → Fields
