-- Which files a command reads and writes.
use Rattle.std.specs.Prelude.{List, [], ◌∷◌, ℕ, Option, Some, None, option_map}
use Rattle.std.specs.Borrow.{Bor}
use Rattle.files.specs.declared.role.Role.{Role}
use Rattle.files.specs.declared.role.Role.TheVariants as role
use Rattle.commands.specs.declared.command.Command.{Command}
use Rattle.commands.specs.declared.command.Command.TheVariants.{Judge, Write, Follow, Run, Facts, Search, Explain, Show, Make}
use Rattle.commands.specs.declared.command.Request.{Request}
use Rattle.commands.specs.declared.command.TaskPaths.{TaskPaths}
use Rattle.commands.specs.declared.paths.FilePath.{FilePath}

abbrev pub file_at : Role → Bor (List ℕ) → FilePath
file_at what path = record { role = what; path = path }

abbrev pub task_files : TaskPaths → Option FilePath → List (Option FilePath)
task_files task third = Some (file_at role.Problem task.problem) ∷ Some (file_at role.Plan task.plan) ∷ third ∷ []

-- what is read, in this order
abbrev pub files_read : Command → List (Option FilePath)
files_read (Judge task grant) = task_files task None
files_read (Write task list grant) = task_files task None
files_read (Follow task list) = task_files task (Some (file_at role.List list))
files_read (Run task state) = task_files task None
files_read (Facts task state) = task_files task None
files_read (Search problem longest grant plan) = Some (file_at role.Problem problem) ∷ None ∷ None ∷ []
files_read (Explain task grant) = task_files task None
files_read (Show problem plan) = Some (file_at role.Problem problem) ∷ option_map (file_at role.Plan) plan ∷ None ∷ []
files_read (Make text problem plan) = Some (file_at role.Text text) ∷ None ∷ None ∷ []

-- the names come first
abbrev pub inputs : Request → List (Option FilePath)
inputs request = option_map (file_at role.Names) request.names ∷ files_read request.command

-- what is written, in this order: what goes with the reply comes last
abbrev pub files_written : Command → List (Option FilePath)
files_written (Write task list grant) = None ∷ Some (file_at role.List list) ∷ []
files_written (Search problem longest grant plan) = None ∷ option_map (file_at role.Plan) plan ∷ []
files_written (Make text problem plan) = option_map (file_at role.Plan) plan ∷ Some (file_at role.Problem problem) ∷ []
files_written c = None ∷ None ∷ []

abbrev pub outputs : Request → List (Option FilePath)
outputs request = files_written request.command
